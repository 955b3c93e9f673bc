-- The ways through the reading of a state.
-- Assumes nothing.
use mathlib.Core.Path.{◌≡◌, refl, sym, ◌∙◌}
use Prim.Native.Nat.{ℕ, ◌≤◌, ◌<◌}
use mathlib.Core.Bool.{Bool, true, false, not, ◌||◌, ◌&&◌, true≢false}
use mathlib.Core.List.{List, [], ◌∷◌}
use native.Mathlib.Omega.{arith}
use lib.Dec.{leb, eqb}
use lib.ListN.{length}
use borrow.Author.Tests.{leb-true, le-leb, eqb-true}
use Rattle.bits.proofs.Flags.{pick_elim, both_true}
use Rattle.bits.specs.Bits.{pick}
use Rattle.vbv.specs.declared.VbvCbrModel.{VbvCbrModel}
use Rattle.layers.specs.declared.PictureKind.{PictureKind}
use Rattle.layers.specs.declared.PictureKind.TheVariants.{I, P, B}
use Rattle.rate_control.specs.Writer.{quantiser_fits, pending_fits, writer_fits}
use Rattle.std.specs.Prelude.{Option, Some, None}
use Rattle.rate_control.specs.declared.CbrWriter.{CbrWriter}
use Rattle.rate_control.proofs.Fitting.{all_fit-at, quantiser_is, writer_fits_lem}
use Rattle.cadence.specs.declared.VbvCadence.{VbvCadence}
use Rattle.words.specs.Words.{word_at}
use Rattle.verify.specs.declared.VbvMode.{VbvMode}
use Rattle.layout.specs.Mode.{mode_for}
use Rattle.layout.specs.State.{state_size, cadence_codes_fit, codes_fit, pending_of, cadence_in, writer_at, state_fits, state_at}
use Rattle.layout.specs.Steps.{Narrow, narrow}
use Rattle.layout.proofs.RoundTrip.{state_fits_lem}

-- a test in strict operations, and the definition's
or-pick : (a b : Bool) → (not a || b) ≡ pick a b true
unfolding pick
or-pick true b = refl
or-pick false b = refl

-- a pending picture in its range has a quantiser of few bits
waits-low : (code q : ℕ) → pick (eqb code 0) (eqb q 0) true ≡ true → pending_fits (pending_of code q) ≡ true → q ≤ 31
unfolding pending_of pending_fits pick
waits-low code q h =
    pick_elim Low (eqb code 0) (λ e f. omega (arith, eqb-true q 0 (rw e at (h))))
    (λ e. pick_elim Low (eqb code 1) (λ e. low I) (λ e. pick_elim Low (eqb code 2) (λ e. low P) (λ e. low B)))
  where
    Low : Option (PictureKind × ℕ) → Type 0
    Low x = pending_fits x ≡ true → q ≤ 31

    low : (k : PictureKind) → pending_fits (Some (k, q)) ≡ true → q ≤ 31
    low k f = (quantiser_is f).high

module _ (s : List ℕ) where
  pub model_told : (a b c d e f g h i : ℕ) → a ≡ word_at s 0 → b ≡ word_at s 1 → c ≡ word_at s 2 → d ≡ word_at s 3 → e ≡ word_at s 4
      → f ≡ word_at s 5 → g ≡ word_at s 6 → h ≡ word_at s 7 → i ≡ word_at s 8
      → ◌≡◌ {A = VbvCbrModel}
      (record { params = record { bit_rate = a; buffer_size_bits = b; frn = c; frd = d }; whole = e; rest = f; prev_end_bits = g; removed = h; started = eqb i 1 })
      (writer_at s).model
  unfolding writer_at
  model_told a b c d e f g h i a' b' c' d' e' f' g' h' i' = rw (a', b', c', d', e', f', g', h', i')

  pub narrow_told : (started code waits i p b finished : ℕ) (k : Bool) → started ≡ word_at s 8 → code ≡ word_at s 15 → waits ≡ word_at s 16
      → i ≡ word_at s 12 → p ≡ word_at s 13 → b ≡ word_at s 14 → finished ≡ word_at s 18 → k ≡ cadence_codes_fit s
      → ((leb started 1 && (leb code 3 && ((not (eqb code 0) || eqb waits 0) && (leb finished 1 && k))))
      && ((leb i 31 && (leb p 31 && leb b 31)) && leb waits 31))
      ≡ narrow s
  unfolding narrow codes_fit
  narrow_told started code waits i p b finished k e f g h j m l n =
      rw (e, f, g, h, j, m, l, n, or-pick (eqb (word_at s 15) 0) (eqb (word_at s 16) 0))

  narrow_is : narrow s ≡ true → (codes_fit s ≡ true) × Narrow s
  unfolding narrow
  narrow_is h =
      let a = both_true (codes_fit s) _ h in
      let b = both_true (leb (word_at s 12) 31 && (leb (word_at s 13) 31 && leb (word_at s 14) 31)) _ a.1 in
      let c = both_true (leb (word_at s 12) 31) _ b.0 in
      let d = both_true (leb (word_at s 13) 31) _ c.1 in
      (a.0, record { i = leb-true _ _ c.0; p = leb-true _ _ d.0; b = leb-true _ _ d.1; waits = leb-true _ _ b.1 })

  pub few_bits : (n : Bool) → n ≡ narrow s → n ≡ true → Narrow s
  few_bits n e h = (narrow_is (sym e ∙ h)).1

  is_narrow : codes_fit s ≡ true → Narrow s → narrow s ≡ true
  unfolding narrow
  is_narrow h n = simp (h, le-leb _ _ n.i, le-leb _ _ n.p, le-leb _ _ n.b, le-leb _ _ n.waits)

  pub writer_told : (m : VbvCbrModel) (a b c i p q code waits n f : ℕ) (x : Option (PictureKind × ℕ)) (k : VbvCadence) (o : VbvMode) (y : ℕ) → m ≡ (writer_at s).model
      → a ≡ word_at s 9 → b ≡ word_at s 10 → c ≡ word_at s 11 → i ≡ word_at s 12 → p ≡ word_at s 13 → q ≡ word_at s 14
      → code ≡ word_at s 15 → waits ≡ word_at s 16 → x ≡ pending_of code waits → n ≡ word_at s 17 → f ≡ word_at s 18 → k ≡ cadence_in s → o ≡ mode_for y → y ≡ word_at s 19
      → ◌≡◌ {A = CbrWriter}
      (record { model = m; target_bits = a ∷ b ∷ c ∷ []; q = i ∷ p ∷ q ∷ []; pending = x; stuffing_bytes = n; finished = eqb f 1; cadence = k; variable = o.variable })
      (writer_at s)
  unfolding writer_at
  writer_told m a b c i p q code waits n f x k o y m' a' b' c' i' p' q' code' waits' x' n' f' k' o' y' =
      rw (m', a', b', c', i', p', q', x', code', waits', n', f', k', o', y')

  -- so has a writer in its ranges
  fits-narrow : codes_fit s ≡ true → writer_fits (writer_at s) ≡ true → Narrow s
  unfolding writer_at codes_fit
  fits-narrow h f =
      let w = writer_fits_lem f in
      let a = both_true (leb (word_at s 8) 1) _ h in
      let b = both_true (leb (word_at s 15) 3) _ a.1 in
      let c = both_true (pick (eqb (word_at s 15) 0) (eqb (word_at s 16) 0) true) _ b.1 in
      record {
        i = (quantiser_is (all_fit-at quantiser_fits _ 0 w.quantisers (omega arith))).high;
        p = (quantiser_is (all_fit-at quantiser_fits _ 1 w.quantisers (omega arith))).high;
        b = (quantiser_is (all_fit-at quantiser_fits _ 2 w.quantisers (omega arith))).high;
        waits = waits-low _ _ c.0 w.pending;
      }

  -- the ways through
  not-state : (state_fits s ≡ true → ⊥) → None ≡ state_at s
  unfolding state_at
  not-state f = pick_elim (λ (x : Option CbrWriter). None ≡ x) (state_fits s) (λ h. absurd (f h)) (λ h. refl)

  pub way_short : length s < state_size → None ≡ state_at s
  way_short h = not-state (λ e. absurd (omega (arith, (state_fits_lem s e).0)))

  module _ (n : Bool) (e : n ≡ narrow s) where
    pub way_wide : n ≡ false → None ≡ state_at s
    way_wide h = not-state (λ f. let g = state_fits_lem s f in true≢false (sym (is_narrow g.1 (fits-narrow g.1 g.2)) ∙ sym e ∙ h))

    module _ (w : CbrWriter) (f : Bool) (g : w ≡ writer_at s) (k : f ≡ writer_fits w) where
      pub way_unfit : f ≡ false → None ≡ state_at s
      way_unfit h = not-state (λ z. true≢false (sym (state_fits_lem s z).2 ∙ rw (← g, ← k) h))

      pub way_held : state_size ≤ length s → n ≡ true → f ≡ true → Some w ≡ state_at s
      unfolding state_at state_fits pick
      way_held h t u = rw (le-leb state_size (length s) h, (narrow_is (sym e ∙ t)).0, ← g, ← k, u)
