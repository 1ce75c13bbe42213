-- What a gate that fits a netlist tells. Assumes nothing.
use mathlib.Core.Path.{subst⁻¹}
use mathlib.Core.Logic.{⊎_elim}
use mathlib.Core.List.Memᴰ
use mathlib.Core.List.{List, [], ◌∷◌, Memᴰ}
use Prim.Native.Nat.{ℕ, ◌≤◌, ◌<◌}
use native.Mathlib.Omega.{arith}
use Rattle.netlist.specs.declared.Source.{Source}
use Rattle.netlist.specs.declared.Source.TheVariants.{Constant, Input, Signal}
use Rattle.netlist.specs.declared.Gate.{Gate}
use Rattle.netlist.specs.declared.Gate.TheVariants.{Lut, ZeroOf, Select, Xor, Same, Stored}
use Rattle.netlist.specs.Rule.{sources_of, signals_in, reads_of}
use Rattle.netlist.specs.Table.{signal_count, SourceFits, GateFits}

-- a netlist of more inputs has the gates of one with fewer
module _ (n : ℕ) {m k : ℕ} (h : m ≤ k) where
  pub source_more : (s : Source) → SourceFits n m s → SourceFits n k s
  source_more (Constant b) f = tt
  source_more (Input j) f = omega arith
  source_more (Signal x) f = f

  pub fits_more : (gate : Gate) → GateFits n m gate → GateFits n k gate
  unfolding GateFits
  fits_more (Lut t p1 p2 p3 p4 p5 p6) f =
      (f.0, source_more p1 f.1, source_more p2 f.2, source_more p3 f.3, source_more p4 f.4, source_more p5 f.5, source_more p6 f.6)
  fits_more (ZeroOf t) f = f
  fits_more (Select s one none) f = (source_more s f.0, source_more one f.1, source_more none f.2)
  fits_more (Xor a b) f = (source_more a f.0, source_more b f.1)
  fits_more (Same a) f = source_more a f
  fits_more (Stored q) f = f

-- what it reads is a signal of the netlist
module _ (n m : ℕ) where
  abbrev AllFit : List Source → Type 0
  AllFit [] = Unit {0}
  AllFit (s ∷ ss) = SourceFits n m s × AllFit ss

  all_fit : (gate : Gate) → GateFits n m gate → AllFit (sources_of gate)
  unfolding GateFits sources_of
  all_fit (Lut t p1 p2 p3 p4 p5 p6) f = (f.1, (f.2, (f.3, (f.4, (f.5, (f.6, tt))))))
  all_fit (ZeroOf t) f = tt
  all_fit (Select s one none) f = (f.0, (f.1, (f.2, tt)))
  all_fit (Xor a b) f = (f.0, (f.1, tt))
  all_fit (Same a) f = (f, tt)
  all_fit (Stored q) f = tt

  signal_below : (ss : List Source) → AllFit ss → (y : ℕ) → Memᴰ y (signals_in ss) → y < signal_count n
  unfolding signals_in
  signal_below [] f y r = absurd (Memᴰ.not-nil r)
  signal_below (Constant b ∷ ss) f y r = signal_below ss f.1 y r
  signal_below (Input j ∷ ss) f y r = signal_below ss f.1 y r
  signal_below (Signal x ∷ ss) f y r =
      ⊎_elim (λ e. subst⁻¹ (λ (k : ℕ). k < signal_count n) e f.0) (λ t. signal_below ss f.1 y t) (Memᴰ.cases_cons r)

  pub fits_reads : (gate : Gate) → GateFits n m gate → (y : ℕ) → Memᴰ y (reads_of gate) → y < signal_count n
  unfolding reads_of
  fits_reads gate f = signal_below (sources_of gate) (all_fit gate f)
