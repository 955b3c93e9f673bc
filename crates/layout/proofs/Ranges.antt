-- The words of a writer whose state fits have 64 bits at most.
-- Assumes nothing.
use mathlib.Core.Path.{◌≡◌}
use mathlib.Core.Bool.{true}
use mathlib.Core.List.{List, ◌∷◌}
use Prim.Native.Nat.{ℕ, ◌^◌, ◌≤◌, ◌<◌}
use native.Mathlib.Omega.{arith}
use lib.Dec.{leb}
use lib.ListN.{get_or}
use borrow.Author.Tests.{leb-true}
use Rattle.layers.specs.declared.PictureKind.{PictureKind}
use Rattle.layers.specs.declared.PictureKind.TheVariants.{I, P, B}
use Rattle.rate_control.specs.Writer.{quantiser_fits, all_fit, pending_fits, writer_fits}
use Rattle.std.specs.Prelude.{Option, Some, None}
use Rattle.rate_control.specs.declared.CbrWriter.{CbrWriter}
use Rattle.headers.proofs.Answers.{flag-bound}
use Rattle.vbv.specs.Model.{farthest}
use Rattle.vbv.proofs.Fitting.{range_fits, model_in_range_lem, in_range, frames_in_range}
use Rattle.vbr.proofs.Either.{fits_range_at}
use Rattle.rate_control.proofs.Fitting.{all_fit-at, quantiser_is, writer_fits_lem}
use Rattle.layout.specs.State.{pending_code, pending_quantiser, state_words}
use Rattle.words.proofs.Bytes.{AllWords, some, each_small, small_append}
use Rattle.layout.proofs.Cadences.{cadence_small}

pub code_low : (p : Option (PictureKind × ℕ)) → pending_code p ≤ 3
unfolding pending_code
code_low None = omega arith
code_low (Some (I, q)) = omega arith
code_low (Some (P, q)) = omega arith
code_low (Some (B, q)) = omega arith

quantiser_low : (p : Option (PictureKind × ℕ)) → pending_fits p ≡ true → pending_quantiser p ≤ 31
unfolding pending_quantiser pending_fits
quantiser_low None h = omega arith
quantiser_low (Some (k, q)) h = (quantiser_is h).high

targets_small : (vs : List ℕ) → all_fit (λ t. leb t farthest) vs ≡ true → AllWords vs
targets_small vs h = each_small vs (λ k g. omega (arith, leb-true (get_or vs k 0) farthest (all_fit-at _ vs k h g)))

quantisers_small : (vs : List ℕ) → all_fit quantiser_fits vs ≡ true → AllWords vs
quantisers_small vs h = each_small vs (λ k g. omega (arith, (quantiser_is (all_fit-at quantiser_fits vs k h g)).high))

-- as a function, so that the goal says which word is meant
small_more : {v : ℕ} {vs : List ℕ} → v < 2 ^ 64 → AllWords vs → AllWords (v ∷ vs)
small_more h f = some h f

pub state_small : (w : CbrWriter) → writer_fits w ≡ true → AllWords (state_words w)
unfolding state_words
state_small w h =
    let f = writer_fits_lem h in
    let e = fits_range_at w.variable w.model f.model_fits_lem in
    let m = range_fits e in
    let p = in_range w.model.params m.params_in in
    let q = frames_in_range w.model.params m.params_in in
    small_more (omega (arith, p.0))
    (small_more (omega (arith, p.1))
    (small_more (omega (arith, q.0))
    (small_more (omega (arith, q.1))
    (small_more (omega (arith, m.whole_high))
    (small_more (omega (arith, model_in_range_lem e))
    (small_more (omega (arith, m.end_high))
    (small_more (omega (arith, m.removed_high))
    (small_more (omega (arith, flag-bound w.model.started))
    (small_append (targets_small w.target_bits f.targets)
    (small_append (quantisers_small w.q f.quantisers)
    (small_more (omega (arith, code_low w.pending))
    (small_more (omega (arith, quantiser_low w.pending f.pending))
    (small_more (omega (arith, f.stuffed, m.end_high))
    (small_more (omega (arith, flag-bound w.finished)) (cadence_small w.variable w.cadence)))))))))))))))
