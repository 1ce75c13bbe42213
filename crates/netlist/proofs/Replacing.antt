-- A list of changes replaces only the bytes and words that it names, each by its last change. Assumes nothing.
use mathlib.Core.Path.{◌≡◌, refl, ◌∙◌, ap}
use mathlib.Core.Bool.{cond}
use mathlib.Core.List.{List, [], ◌∷◌}
use Prim.Native.Nat.{ℕ, ◌<◌}
use native.Mathlib.Decide.{ℕ_discrete}
use borrow.Author.Tests.{eq-eqb, ne_eqb}
use lib.Dec.{eqb}
use lib.ListN.{length, get_or, set, length-set}
use lib.Seq.{get_or-set_same, get_or-set_other}
use Rattle.netlist.specs.Rule.{Env}
use Rattle.netlist.specs.Changes.{Change, OfInput, OfContents, changed, changed_by, last_input, last_contents, Replaced}

set_at : (l : List ℕ) (i v k : ℕ) → k < length l → get_or (set l i v) k 0 ≡ cond (eqb i k) v (get_or l k 0)
set_at l i v k h = by (ℕ_discrete k i)
  where
    by : Dec (k ≡ i) → get_or (set l i v) k 0 ≡ cond (eqb i k) v (get_or l k 0)
    by (yes e) = rw (← e, get_or-set_same l k v 0 h, eq-eqb k k refl)
    by (no n) = rw (get_or-set_other l i k v 0 n, ne_eqb i k (λ e. n (rw e)))

pub changes_replace : (e : Env) (cs : List Change) → Replaced e cs (changed_by e cs)
changes_replace e [] =
    record { same_flops = refl; inputs_size = refl; each_input = λ j h. refl; contents_size = refl; each_word = λ t h. refl }
changes_replace e (OfInput i v ∷ cs) =
    let r = changes_replace (changed e (OfInput i v)) cs in
    record {
      same_flops = r.same_flops;
      inputs_size = r.inputs_size ∙ length-set e.inputs i v;
      each_input = λ j h. r.each_input j (rw length-set h) ∙ ap (λ (b : ℕ). last_input j b cs) (set_at e.inputs i v j h);
      contents_size = r.contents_size;
      each_word = r.each_word;
    }
changes_replace e (OfContents u v ∷ cs) =
    let r = changes_replace (changed e (OfContents u v)) cs in
    record {
      same_flops = r.same_flops;
      inputs_size = r.inputs_size;
      each_input = r.each_input;
      contents_size = r.contents_size ∙ length-set e.contents u v;
      each_word = λ t h. r.each_word t (rw length-set h) ∙ ap (λ (w : ℕ). last_contents t w cs) (set_at e.contents u v t h);
    }
