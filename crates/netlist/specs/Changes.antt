-- A list of changes, "each an input or a table's contents", and what is left by "the edits made one after another, the same input twice included".
use Rattle.std.specs.Prelude.{◌≡◌, Bool, false, ◌||◌, cond, List, [], ◌∷◌, ℕ, ◌<◌, eqb, length, get_or}
use Rattle.netlist.specs.declared.Gate.{Gate}
use Rattle.netlist.specs.Rule.{Env, touches_input, touches_table, set_input, set_contents}
use Rattle.netlist.specs.Settle.{Edited}

-- outside input j becomes b; the contents of table t become w
pub data Change : Type 0 where
  OfInput : ℕ → ℕ → Change
  OfContents : ℕ → ℕ → Change

-- the inputs and contents after a change, and after "all changes of the list, in their order"
abbrev pub changed : Env → Change → Env
changed e (OfInput j b) = set_input e j b
changed e (OfContents t w) = set_contents e t w

abbrev pub changed_by : Env → List Change → Env
changed_by e [] = e
changed_by e (c ∷ cs) = changed_by (changed e c) cs

-- the gate touches a change, and "any change of the list"; setting what is there already is a change
abbrev pub touches : Change → Gate → Bool
touches (OfInput j b) gate = touches_input j gate
touches (OfContents t w) gate = touches_table t gate

abbrev pub touches_any : List Change → Gate → Bool
touches_any [] gate = false
touches_any (c ∷ cs) gate = touches c gate || touches_any cs gate

-- "the edits made one after another": from inputs, contents and a table, an edit of each change alone, to inputs, contents and a table
pub data Steps (g : ℕ → Gate) (N : ℕ) : Env → List ℕ → List Change → Env → List ℕ → Type 0 where
  none : {e : Env} {t : List ℕ} → Steps g N e t [] e t
  next : {e e' : Env} {t u v : List ℕ} {c : Change} {cs : List Change} → Edited g N (changed e c) (λ x. touches c (g x)) t u → Steps g N (changed e c) u cs e' v
      → Steps g N e t (c ∷ cs) e' v

-- outside input j after the changes, where it was b, and the contents of table t, where they were w: as the last change of it says, if there is one
abbrev pub last_input : ℕ → ℕ → List Change → ℕ
last_input j b [] = b
last_input j b (OfInput i v ∷ cs) = last_input j (cond (eqb i j) v b) cs
last_input j b (OfContents u v ∷ cs) = last_input j b cs

abbrev pub last_contents : ℕ → ℕ → List Change → ℕ
last_contents t w [] = w
last_contents t w (OfInput i v ∷ cs) = last_contents t w cs
last_contents t w (OfContents u v ∷ cs) = last_contents t (cond (eqb u t) v w) cs

-- "the inputs and contents are the old ones with only the named byte or word replaced"
pub record Replaced (before : Env) (cs : List Change) (after : Env) : Type 0 where
  pub same_flops : after.flops ≡ before.flops
  pub inputs_size : length after.inputs ≡ length before.inputs
  pub each_input : (j : ℕ) → j < length before.inputs → get_or after.inputs j 0 ≡ last_input j (get_or before.inputs j 0) cs
  pub contents_size : length after.contents ≡ length before.contents
  pub each_word : (t : ℕ) → t < length before.contents → get_or after.contents t 0 ≡ last_contents t (get_or before.contents t 0) cs
