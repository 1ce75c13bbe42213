-- Settled value tables of a netlist g of N signals, and the walks along an order that settle or edit one.
use Rattle.std.specs.Prelude.{◌≡◌, Bool, false, ◌||◌, cond, List, [], ◌∷◌, ℕ, ◌<◌, ltb, length, get_or, set}
use Rattle.netlist.specs.declared.Gate.{Gate}
use Rattle.netlist.specs.Rule.{Env, rule_of, reads_of, bit}
use Rattle.netlist.specs.Graph.{Affected}

-- the signals that signal x of the netlist reads directly
abbrev pub reads_in : (ℕ → Gate) → ℕ → List ℕ
reads_in g x = reads_of (g x)

-- the rule of signal x applied to a value table
abbrev pub rule_in : (ℕ → Gate) → Env → List ℕ → ℕ → ℕ
rule_in g e table x = rule_of e table (g x)

-- each of the N bytes equals its signal's rule applied to that same table
pub record Settled (g : ℕ → Gate) (N : ℕ) (e : Env) (table : List ℕ) : Type 0 where
  pub size : length table ≡ N
  pub each : (x : ℕ) → x < N → get_or table x 0 ≡ rule_in g e table x

-- a state taken along a list
abbrev pub walk : {S : Type 0} → (S → ℕ → S) → S → List ℕ → S
walk f s [] = s
walk f s (x ∷ xs) = walk f (f s x) xs

-- settling: each signal in turn is set to its rule
abbrev pub settle_step : (ℕ → Gate) → Env → List ℕ → ℕ → List ℕ
settle_step g e table x = set table x (rule_in g e table x)

abbrev pub settle_by : (ℕ → Gate) → Env → List ℕ → List ℕ → List ℕ
settle_by g e = walk (settle_step g e)

-- what a walk that edits holds: a mark for each signal, and the value table
pub record Edit : Type 0 where
  pub marks : List ℕ
  pub table : List ℕ

abbrev pub is_marked : List ℕ → ℕ → Bool
is_marked marks x = ltb 0 (get_or marks x 0)

abbrev pub any_marked : List ℕ → List ℕ → Bool
any_marked marks [] = false
any_marked marks (y ∷ ys) = is_marked marks y || any_marked marks ys

-- signal x touches the change or reads a marked signal
abbrev pub reached : (ℕ → Gate) → (ℕ → Bool) → List ℕ → ℕ → Bool
reached g touches marks x = touches x || any_marked marks (reads_in g x)

-- editing: a reached signal is marked and recomputed, any other is unmarked and left
abbrev pub edit_step : (ℕ → Gate) → Env → (ℕ → Bool) → Edit → ℕ → Edit
edit_step g e touches s x =
    let m = reached g touches s.marks x in
    record { marks = set s.marks x (bit m); table = cond m (settle_step g e s.table x) s.table }

abbrev pub edit_by : (ℕ → Gate) → Env → (ℕ → Bool) → Edit → List ℕ → Edit
edit_by g e touches = walk (edit_step g e touches)

-- what an edit leaves, for the environment after the change: a signal that depends on the change has its rule's value in the table as left,
-- and any other keeps its byte
pub record Edited (g : ℕ → Gate) (N : ℕ) (e : Env) (touches : ℕ → Bool) (old new : List ℕ) : Type 0 where
  pub size : length new ≡ length old
  pub recomputed : (x : ℕ) → x < N → Affected (reads_in g) touches x → get_or new x 0 ≡ rule_in g e new x
  pub kept : (x : ℕ) → x < N → (Affected (reads_in g) touches x → ⊥) → get_or new x 0 ≡ get_or old x 0
