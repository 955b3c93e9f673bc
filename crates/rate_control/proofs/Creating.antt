-- Creation's answer is the one that is due.
-- Assumes nothing.
use mathlib.Core.Path.{◌≡◌, refl, sym, ap, subst, ◌∙◌}
use mathlib.Core.Bool.{true, false, true≢false}
use Prim.Native.Nat.{ℕ, ◌*◌, ◌≤◌, ◌<◌}
use native.Mathlib.Omega.{arith}
use borrow.Author.Tests.{not-true, not-false}
use Rattle.bits.specs.Refusals.{Answer, value, refused, and_then}
use Rattle.bits.proofs.Flags.{is_false, pick_elim, held, failed}
use Rattle.vbv.specs.Answers.{frame_rate}
use Rattle.vbv.specs.Model.{params_fit_at}
use Rattle.vbv.specs.declared.VbvCbrModel.{VbvCbrModel}
use Rattle.vbv.proofs.Params.{params-rate, params_buffer, params_frn, params_frd}
use Rattle.vbv.proofs.Fitting.{ParamsIn, fitting-at, ratio_at, unfit_ratio}
use Rattle.pictures.specs.declared.VbvStandard.{VbvStandard}
use Rattle.pictures.specs.declared.VbvStandard.TheVariants.{Mpeg2}
use Rattle.rate_control.specs.Create.{is_written, config_fits, writer_params, fresh_writer, create}
use Rattle.rate_control.specs.Due.{at_first, holding, Ranges, targets_of, CreationDue, bad_range, bad_code, bad_ratio, created}
use Rattle.rate_control.specs.declared.CbrConfig.{CbrConfig}
use Rattle.rate_control.specs.declared.CbrWriter.{CbrWriter}
use Rattle.rate_control.specs.Steps.{with_rate}
use Rattle.vbv.proofs.Cases.{RateCode, known, unknown, rate-code}
use Rattle.vbr.proofs.Either.{NewModelAt, made, unfit, new_model_at_lem}
use Rattle.rate_control.proofs.Fitting.{in_bounds}
use Rattle.rate_control.proofs.Creation.{config_ranges}
use Rattle.rate_control.proofs.Knowing.{fresh_known}

is_written_lem : {t : VbvStandard} → t ≡ Mpeg2 → is_written t ≡ true
unfolding is_written
is_written_lem e = rw e

ranges_fit : (c : CbrConfig) → Ranges c → config_fits c ≡ true
unfolding config_fits
ranges_fit c r =
    simp (
      is_written_lem r.mode_written,
      in_bounds 1 262143 c.bit_rate_value r.rate_low r.rate_high,
      in_bounds 1 1023 c.vbv_buffer_size_value r.buffer_low r.buffer_high,
      in_bounds 0 3 c.frame_rate_extension_n (omega arith) r.n_high,
      in_bounds 0 31 c.frame_rate_extension_d (omega arith) r.d_high,
      in_bounds 1 31 c.initial_quantiser_scale_code r.quantiser_low r.quantiser_high,
      in_bounds 0 15 c.b_between (omega arith) r.between_high,
      in_bounds 1 255 c.anchors_per_gop r.anchors_low r.anchors_high,
    )

-- the rate of a configuration in its ranges
rate-of : (c : CbrConfig) → Ranges c → RateCode c.frame_rate_code 4 32 (frame_rate c.frame_rate_code c.frame_rate_extension_n c.frame_rate_extension_d)
rate-of c r = rate-code c.frame_rate_code c.frame_rate_extension_n c.frame_rate_extension_d r.n_high r.d_high

module _ (c : CbrConfig) (r : Ranges c) where
  params_in : (n d : ℕ) → 1 ≤ n → n ≤ 240000 → 1 ≤ d → d ≤ 32032 → ParamsIn (writer_params c (n, d))
  params_in n d a b g k =
      let rate = params-rate c.bit_rate_value c.vbv_buffer_size_value (n, d) in
      let buffer = params_buffer c.bit_rate_value c.vbv_buffer_size_value (n, d) in
      let frn = params_frn c.bit_rate_value c.vbv_buffer_size_value (n, d) in
      let frd = params_frd c.bit_rate_value c.vbv_buffer_size_value (n, d) in
      record {
        rate_low = omega (arith, rate, r.rate_low);
        rate_high = omega (arith, rate, r.rate_high);
        size_low = omega (arith, buffer, r.buffer_low);
        size_high = omega (arith, buffer, r.buffer_high);
        frn_low = omega (arith, frn, a);
        frn_high = omega (arith, frn, b);
        frd_low = omega (arith, frd, g);
        frd_high = omega (arith, frd, k);
      }

  -- the model of the parameters, and the ratio
  with-model : (n d : ℕ) → frame_rate c.frame_rate_code c.frame_rate_extension_n c.frame_rate_extension_d ≡ value (n, d) → 1 ≤ c.frame_rate_code → c.frame_rate_code ≤ 8 → 1 ≤ n → n ≤ 240000 → 1 ≤ d → d ≤ 32032
      → (x : Answer VbvCbrModel) → NewModelAt c.mode.variable (writer_params c (n, d)) x → CreationDue c (and_then x (λ m. value (fresh_writer c m)))
  with-model n d e l h a b g k x (made f) = rw (fresh_known c (n, d)) (created r l h e (ratio_at (writer_params c (n, d)) c.mode.variable f))
  with-model n d e l h a b g k x (unfit f) =
      let z = unfit_ratio (writer_params c (n, d)) c.mode.variable (params_in n d a b g k) f in
      bad_ratio z.0 r l h e z.1

  with_code : (x : Answer (ℕ × ℕ)) → frame_rate c.frame_rate_code c.frame_rate_extension_n c.frame_rate_extension_d ≡ x → RateCode c.frame_rate_code 4 32 x
      → CreationDue c (and_then x (λ f. with_rate c f))
  with_code x e (known {n} {d} l h a b g k) = with-model n d e l h a (omega arith) g (omega arith) _ (new_model_at_lem c.mode.variable (writer_params c (n, d)))
  with_code x e (unknown z) = bad_code r z

pub creation_due : (c : CbrConfig) → CreationDue c (create c)
unfolding create
creation_due c =
    pick_elim (CreationDue c) _ (λ e. bad_range (λ r. true≢false (sym (ranges_fit c r) ∙ not-true _ e)))
    (λ e. with_code c (config_ranges c (not-false _ e)) (frame_rate c.frame_rate_code c.frame_rate_extension_n c.frame_rate_extension_d) refl (rate-of c (config_ranges c (not-false _ e))))

-- ---- and no other

pub creation_only : (c : CbrConfig) (a : Answer CbrWriter) → CreationDue c a → a ≡ create c
unfolding create
creation_only c a (bad_range n) = failed (config_fits c) _ _ (is_false (config_fits c) (λ e. n (config_ranges c e))) refl
creation_only c a (bad_code r n) = held (config_fits c) _ _ (ranges_fit c r) (go (rate-of c r))
  where
    go : {x : Answer (ℕ × ℕ)} → RateCode c.frame_rate_code 4 32 x → refused 6 0 0 0 ≡ and_then x (λ f. with_rate c f)
    go (known l h a b g k) = absurd (n l h)
    go (unknown z) = refl
creation_only c a (bad_ratio {f} y r l h e z) = held (config_fits c) _ _ (ranges_fit c r) (go (rate-of c r) e)
  where
    model : (n d : ℕ) → 65534 * (writer_params c (n, d)).bit_rate < 90000 * (writer_params c (n, d)).buffer_size_bits
        → {x : Answer VbvCbrModel} → NewModelAt c.mode.variable (writer_params c (n, d)) x → refused 12 0 0 0 ≡ and_then x (λ m. value (fresh_writer c m))
    model n d q (made g) = absurd (omega (arith, q, ratio_at (writer_params c (n, d)) c.mode.variable g y))
    model n d q (unfit g) = refl

    go : {x : Answer (ℕ × ℕ)} → RateCode c.frame_rate_code 4 32 x → x ≡ value f → refused 12 0 0 0 ≡ and_then x (λ f. with_rate c f)
    go (known {n} {d} l h a b g k) e =
        let q : ◌≡◌ {A = ℕ × ℕ} f (n, d) = cc in
        model n d (subst (λ (y : ℕ × ℕ). 65534 * (writer_params c y).bit_rate < 90000 * (writer_params c y).buffer_size_bits) q z) (new_model_at_lem c.mode.variable (writer_params c (n, d)))
    go (unknown u) e = absurd (u l h)
creation_only c a (created {f} r l h e z) = held (config_fits c) _ _ (ranges_fit c r) (go (rate-of c r) e)
  where
    model : (n d : ℕ) → params_fit_at c.mode.variable (writer_params c (n, d)) ≡ true → {x : Answer VbvCbrModel} → NewModelAt c.mode.variable (writer_params c (n, d)) x
        → value (holding (writer_params c (n, d)) (targets_of c (n, d)) (at_first c)) ≡ and_then x (λ m. value (fresh_writer c m))
    model n d q (made g) = ap value (sym (fresh_known c (n, d)))
    model n d q (unfit g) = absurd (true≢false (sym q ∙ g))

    go : {x : Answer (ℕ × ℕ)} → RateCode c.frame_rate_code 4 32 x → x ≡ value f
        → value (holding (writer_params c f) (targets_of c f) (at_first c)) ≡ and_then x (λ f. with_rate c f)
    go (known {n} {d} l h a b g k) e =
        let q : ◌≡◌ {A = ℕ × ℕ} (n, d) f = cc in
        let y = subst (λ (y : ℕ × ℕ). c.mode.variable ≡ false → 90000 * (writer_params c y).buffer_size_bits ≤ 65534 * (writer_params c y).bit_rate) (sym q) z in
        rw (← q) (model n d (fitting-at (writer_params c (n, d)) c.mode.variable (params_in c r n d a (omega arith) g (omega arith)) y) (new_model_at_lem c.mode.variable (writer_params c (n, d))))
    go (unknown u) e = absurd (u l h)
