-- What holds of a netlist holds of another with the same gates. Assumes nothing.
use mathlib.Core.Path.{sym, ◌∙◌, ap, subst}
use mathlib.Core.List.{List}
use Prim.Native.Nat.{ℕ, ◌<◌}
use lib.ListN.{get_or}
use Rattle.netlist.specs.declared.Gate.{Gate}
use Rattle.netlist.specs.Rule.{Env, rule_of, reads_of}
use Rattle.netlist.specs.Graph.{Reads, Depends, Loop, WellFormed, Ordered}
use Rattle.netlist.specs.Graph.Depends.{direct, through}
use Rattle.netlist.specs.Settle.{reads_in, Settled}
use Rattle.netlist.specs.Agree.{Agree}

pub agree_sym : {g h : ℕ → Gate} {N : ℕ} → Agree g h N → Agree h g N
agree_sym a x l = sym (a x l)

module _ (g h : ℕ → Gate) (N : ℕ) (a : Agree g h N) where
  reads_agree : (x y : ℕ) → x < N → Reads (reads_in g) x y → Reads (reads_in h) x y
  reads_agree x y l r = subst (λ (gate : Gate). Reads (λ z. reads_of gate) x y) (a x l) r

module _ (g h : ℕ → Gate) (N : ℕ) (a : Agree g h N) where
  pub well_formed_agree : WellFormed (reads_in g) N → WellFormed (reads_in h) N
  well_formed_agree wf x y l r = wf x y l (reads_agree h g N (agree_sym a) x y l r)

  pub ordered_agree : (order : List ℕ) → Ordered (reads_in g) N order → Ordered (reads_in h) N order
  ordered_agree order o =
      record {
        size = o.size;
        each = λ i l.
            let w = o.each i l in
            record { below = w.below; first = w.first; after = λ y r. w.after y (reads_agree h g N (agree_sym a) (get_or order i 0) y w.below r) };
      }

  pub settled_agree : (e : Env) (table : List ℕ) → Settled g N e table → Settled h N e table
  settled_agree e table s = record { size = s.size; each = λ x l. s.each x l ∙ ap (rule_of e table) (a x l) }

  module _ (wf : WellFormed (reads_in g) N) where
    pub depends_agree : {x y : ℕ} → x < N → Depends (reads_in g) x y → Depends (reads_in h) x y
    depends_agree {x} {y} l (direct r) = direct (reads_agree g h N a x y l r)
    depends_agree {x} l (through {y = z} r d) = through (reads_agree g h N a x z l r) (depends_agree (wf x z l r) d)

    pub loop_agree : {x : ℕ} → x < N → Loop (reads_in g) x → Loop (reads_in h) x
    loop_agree l d = depends_agree l d
