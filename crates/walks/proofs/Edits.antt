-- What an edit leaves goes by what touches the change at each signal, and by the gates alone. Assumes nothing.
use mathlib.Core.Path.{◌≡◌, ◌∙◌, sym, ap, subst, fun_ext}
use mathlib.Core.Bool.{Bool}
use mathlib.Core.List.{List}
use mathlib.Core.Logic.{inl, inr}
use Prim.Native.Nat.{ℕ, ◌<◌}
use Rattle.netlist.specs.declared.Gate.{Gate}
use Rattle.netlist.specs.Rule.{Env, rule_of}
use Rattle.netlist.specs.Graph.{Depends, WellFormed, Affected}
use Rattle.netlist.specs.Graph.Depends.{direct, through}
use Rattle.netlist.specs.Settle.{reads_in, Edited}
use Rattle.netlist.specs.Agree.{Agree}
use Rattle.netlist.proofs.Agree.{agree_sym, well_formed_agree, depends_agree}

-- an edit under a test of what touches the change is one under any test that says the same
pub edited_as :
    {g : ℕ → Gate} {N : ℕ} {e : Env} {touches touches' : ℕ → Bool} {old new : List ℕ} → ((x : ℕ) → touches x ≡ touches' x)
    → Edited g N e touches old new → Edited g N e touches' old new
edited_as {g} {N} {e} {old = old} {new = new} same d = subst (λ (t : ℕ → Bool). Edited g N e t old new) (fun_ext same) d

-- what a signal of a netlist depends on is in it
depends_below : {reads : ℕ → List ℕ} {N x y : ℕ} → WellFormed reads N → x < N → Depends reads x y → y < N
depends_below {x = x} {y = y} wf l (direct r) = wf x y l r
depends_below {x = x} wf l (through {y = z} r d) = depends_below wf (wf x z l r) d

module _ (g h : ℕ → Gate) (N : ℕ) (a : Agree g h N) (wf : WellFormed (reads_in g) N) (f : Gate → Bool) where
  affected_agree : (x : ℕ) → x < N → Affected (reads_in g) (λ y. f (g y)) x → Affected (reads_in h) (λ y. f (h y)) x
  affected_agree x l (inl t) = inl (ap f (sym (a x l)) ∙ t)
  affected_agree x l (inr w) = inr (w.0, depends_agree g h N a wf l w.1, ap f (sym (a w.0 (depends_below wf l w.1))) ∙ w.2)

module _ (g h : ℕ → Gate) (N : ℕ) (a : Agree g h N) (wf : WellFormed (reads_in g) N) where
  -- an edit of one netlist is an edit of another with the same gates
  pub edited_agree :
      {e : Env} {old new : List ℕ} (f : Gate → Bool) → Edited g N e (λ x. f (g x)) old new → Edited h N e (λ x. f (h x)) old new
  edited_agree {e} {old} {new} f d =
      record {
        size = d.size;
        recomputed =
            λ x l w.
            d.recomputed x l (affected_agree h g N (agree_sym a) (well_formed_agree g h N a wf) f x l w) ∙ ap (rule_of e new) (a x l);
        kept = λ x l n. d.kept x l (λ w. n (affected_agree g h N a wf f x l w));
      }
