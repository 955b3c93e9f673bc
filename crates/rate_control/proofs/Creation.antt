-- Creation: what the ranges say, the targets in 64 bits, the ways through it, and the writer that it makes: nothing placed, nothing pending, all values in range.
-- Assumes nothing.
use Rattle.std.specs.Prelude.{None, Result, Ok, Err}
use mathlib.Core.Path.{◌≡◌, refl, sym, ap, ◌∙◌}
use mathlib.Core.Bool.{Bool, true, false, ◌&&◌, true≢false}
use mathlib.Core.List.{List, [], ◌∷◌}
use Prim.Native.Nat.{ℕ, ◌+◌, ◌*◌, ◌/◌, ◌≤◌}
use native.Mathlib.Omega.{arith}
use native.Mathlib.Nat.{mul-le-mul, div-le_self, div-lt_iff_lt-mul}
use lib.Dec.{leb}
use borrow.Author.Tests.{le-leb}
use Rattle.bits.specs.Bits.{pick}
use Rattle.bits.proofs.Following.{then_value, refused-value, same_value}
use Rattle.bits.specs.Refusals.{Answer, value, refused}
use Rattle.vbv.specs.Answers.{frame_rate, model_number, model_answer}
use Rattle.bits.proofs.Flags.{was_held, both_true}
use Rattle.vbv.specs.Params.{rate_unit}
use Rattle.vbv.specs.Model.{farthest, params_fit_at}
use Rattle.vbr.specs.Variable.{new_model_at}
use Rattle.vbv.specs.declared.VbvParams.{VbvParams}
use Rattle.vbv.specs.declared.VbvCbrModel.{VbvCbrModel}
use Rattle.vbv.specs.declared.VbvError.{VbvError}
use Rattle.vbv.proofs.Params.{params-rate}
use Rattle.vbv.proofs.Fitting.{not-zero, frames_in_range, fit_in_at}
use Rattle.vbr.proofs.Either.{made_at}
use Rattle.cadence.specs.Cadence.{opened}
use Rattle.cadence.specs.declared.VbvCadence.{VbvCadence}
use Rattle.cadence.proofs.Keeping.{opened-fits}
use Rattle.pictures.specs.declared.VbvStandard.{VbvStandard}
use Rattle.pictures.specs.declared.VbvStandard.TheVariants.{Mpeg1, Mpeg2}
use Rattle.rate_control.specs.Targets.{group_pictures, group_bits, group_weight, target, targets}
use Rattle.rate_control.specs.Create.{within, is_written, config_fits, writer_params, fresh_writer, create}
use Rattle.rate_control.specs.Writer.{all_fit}
use Rattle.rate_control.specs.Due.{Ranges}
use Rattle.rate_control.specs.Steps.{TargetsFit, with_rate}
use Rattle.rate_control.specs.declared.CbrConfig.{CbrConfig}
use Rattle.rate_control.specs.declared.CbrWriter.{CbrWriter}
use Rattle.rate_control.proofs.Fitting.{within_bounds, is_quantiser, none-fits, fitting-writer}
use Rattle.rate_control.proofs.Invariant.{Inv}

-- ---- the ranges of a configuration

-- a range as two tests
pub within_is : (low high v : ℕ) → within low high v ≡ (leb low v && leb v high)
unfolding within
within_is low high v = refl

pub config_told : (c : CbrConfig) (m r s n d q b a : Bool) → m ≡ is_written c.mode.standard → r ≡ within 1 262143 c.bit_rate_value → s ≡ within 1 1023 c.vbv_buffer_size_value
    → n ≡ within 0 3 c.frame_rate_extension_n → d ≡ within 0 31 c.frame_rate_extension_d
    → q ≡ within 1 31 c.initial_quantiser_scale_code → b ≡ within 0 15 c.b_between → a ≡ within 1 255 c.anchors_per_gop
    → (m && (r && (s && (n && (d && (q && (b && a))))))) ≡ config_fits c
unfolding config_fits
config_told c m r s n d q b a l e f i j g h k = rw (l, e, f, i, j, g, h, k)

-- a standard that is written
written : (t : VbvStandard) → is_written t ≡ true → t ≡ Mpeg2
unfolding is_written
written Mpeg1 h = cc
written Mpeg2 h = refl

pub config_ranges : (c : CbrConfig) → config_fits c ≡ true → Ranges c
unfolding config_fits
config_ranges c h =
    let m = both_true (is_written c.mode.standard) _ h in
    let r = both_true (within 1 262143 c.bit_rate_value) _ m.1 in
    let s = both_true (within 1 1023 c.vbv_buffer_size_value) _ r.1 in
    let n = both_true (within 0 3 c.frame_rate_extension_n) _ s.1 in
    let d = both_true (within 0 31 c.frame_rate_extension_d) _ n.1 in
    let q = both_true (within 1 31 c.initial_quantiser_scale_code) _ d.1 in
    let b = both_true (within 0 15 c.b_between) (within 1 255 c.anchors_per_gop) q.1 in
    record {
      mode_written = written c.mode.standard m.0;
      rate_low = (within_bounds 1 262143 _ r.0).0;
      rate_high = (within_bounds 1 262143 _ r.0).1;
      buffer_low = (within_bounds 1 1023 _ s.0).0;
      buffer_high = (within_bounds 1 1023 _ s.0).1;
      n_high = (within_bounds 0 3 _ n.0).1;
      d_high = (within_bounds 0 31 _ d.0).1;
      quantiser_low = (within_bounds 1 31 _ q.0).0;
      quantiser_high = (within_bounds 1 31 _ q.0).1;
      between_high = (within_bounds 0 15 _ b.0).1;
      anchors_low = (within_bounds 1 255 _ b.1).0;
      anchors_high = (within_bounds 1 255 _ b.1).1;
    }

-- ---- the targets

module _ (p : VbvParams) (between anchors : ℕ) (h : TargetsFit p between anchors) where
  -- no product passes 64 bits
  pub pictures-low : group_pictures between anchors ≤ 4081
  unfolding group_pictures
  pictures-low = omega (arith, mul-le-mul {n₁ = anchors} {m₁ = between + 1} {n₂ = 255} {m₂ = 16} (omega arith) (omega arith))

  pub share_low : p.bit_rate * p.frd ≤ 3358785830400
  share_low = mul-le-mul {n₂ = 104857200} {m₂ = 32032} (omega arith) (omega arith)

  pub group_bits-low : group_bits p between anchors ≤ 13707204973862400
  unfolding group_bits
  group_bits-low =
      mul-le-mul {n₂ = 3358785830400} {m₂ = 4081}
      (omega (arith, share_low, div-le_self (p.bit_rate * p.frd) p.frn))
      pictures-low

  pub weight_low : group_weight between anchors ≤ 38545
  unfolding group_weight
  weight_low = omega (arith, mul-le-mul {n₁ = anchors} {m₁ = between} {n₂ = 255} {m₂ = 15} (omega arith) (omega arith))

  -- the weights of a group are at least its pictures
  target-low : (weight : ℕ) → weight ≤ 40 → target p between anchors weight ≤ farthest
  unfolding target group_bits group_pictures group_weight
  target-low weight w =
      let share = p.bit_rate * p.frd / p.frn in
      let pictures = 1 + anchors * (between + 1) in
      let all = 40 + 16 * anchors + 9 * (anchors * between) in
      let b : share ≤ p.bit_rate * p.frd = div-le_self (p.bit_rate * p.frd) p.frn in
      let c : share * weight ≤ 3358785830400 * 40 = mul-le-mul {n₁ = share} {m₁ = weight} {n₂ = 3358785830400} {m₂ = 40} (omega (arith, share_low)) w in
      let f : share * weight * pictures ≤ farthest * all = mul-le-mul {n₁ = share * weight} {m₁ = pictures} {n₂ = farthest} {m₂ = all} (omega arith) (omega arith) in
      let g = (div-lt_iff_lt-mul {k = all} {x = share * pictures * weight} {y = farthest + 1} (omega arith)).1 (omega arith) in
      omega arith

  targets-low : all_fit (λ t. leb t farthest) (targets p between anchors) ≡ true
  unfolding targets all_fit
  targets-low =
      simp (le-leb _ _ (target-low 40 (omega arith)), le-leb _ _ (target-low 16 (omega arith)), le-leb _ _ (target-low 9 (omega arith)))

-- ---- a model of parameters, at either kind of rate

-- a model of a configuration in its ranges has targets
pub targets_fit : (c : CbrConfig) (v : Bool) (f : ℕ × ℕ) (p : VbvParams) (x : Result VbvCbrModel VbvError) (m : VbvCbrModel) → p ≡ writer_params c f → model_answer x ≡ new_model_at v p
    → x ≡ Ok m → Ranges c → TargetsFit m.params c.b_between c.anchors_per_gop
targets_fit c v f p x m i e h r =
    let k = made_at v p m (sym e ∙ ap model_answer h) in
    let q = fit_in_at v p k.params_fit in
    let rate : p.bit_rate ≡ rate_unit * c.bit_rate_value = ap (λ (y : VbvParams). y.bit_rate) i ∙ params-rate _ _ f in
    rw k.params_kept
    (record {
      rate_high = omega (arith, rate, r.rate_high);
      frn_low = (not-zero p q).1;
      frd_high = (frames_in_range p q).1;
      between_high = r.between_high;
      anchors_high = r.anchors_high;
    })

-- ---- the ways through creation

pub fresh_told : (c : CbrConfig) (m : VbvCbrModel) (t : List ℕ) (k : VbvCadence) → t ≡ targets m.params c.b_between c.anchors_per_gop → k ≡ opened c.mode.film false false
    → ◌≡◌ {A = CbrWriter}
    (record {
      model = m;
      target_bits = t;
      q = c.initial_quantiser_scale_code ∷ c.initial_quantiser_scale_code ∷ c.initial_quantiser_scale_code ∷ [];
      pending = None;
      stuffing_bytes = 0;
      finished = false;
      cadence = k;
      variable = c.mode.variable;
    })
    (fresh_writer c m)
unfolding fresh_writer
fresh_told c m t k e f = rw (e, f)

module _ (c : CbrConfig) where
  module _ (f : ℕ × ℕ) (p : VbvParams) (i : p ≡ writer_params c f) (x : Result VbvCbrModel VbvError) (e : model_answer x ≡ new_model_at c.mode.variable p) where
    pub way_made : (m : VbvCbrModel) (w : CbrWriter) → x ≡ Ok m → w ≡ fresh_writer c m → value w ≡ with_rate c f
    way_made m w h g =
        let a : new_model_at c.mode.variable (writer_params c f) ≡ value m = ap (new_model_at c.mode.variable) (sym i) ∙ sym e ∙ ap model_answer h in
        rw (a, g)

  module _ (f : Bool) (e : f ≡ config_fits c) where
    pub way_12 : f ≡ false → refused 12 0 0 0 ≡ create c
    unfolding create pick
    way_12 h = rw (← e, h)

    module _ (h : f ≡ true) (x : Result (ℕ × ℕ) VbvError) (k : model_answer x ≡ frame_rate c.frame_rate_code c.frame_rate_extension_n c.frame_rate_extension_d) where
      pub way_6 : (error : VbvError) → x ≡ Err error → refused (model_number error) 0 0 0 ≡ create c
      unfolding create pick
      way_6 error l =
          let a : frame_rate c.frame_rate_code c.frame_rate_extension_n c.frame_rate_extension_d ≡ refused (model_number error) 0 0 0 = sym k ∙ ap model_answer l in
          rw (← e, h, a)

      pub way_rate : (g : ℕ × ℕ) (r : Answer CbrWriter) → x ≡ Ok g → r ≡ with_rate c g → r ≡ create c
      unfolding create pick
      way_rate g r l q =
          let a : frame_rate c.frame_rate_code c.frame_rate_extension_n c.frame_rate_extension_d ≡ value g = sym k ∙ ap model_answer l in
          rw (← e, h, a) q

-- ---- a creation that was accepted

-- what it has found
pub record Creation (c : CbrConfig) (w : CbrWriter) : Type 0 where
  pub ranges : config_fits c ≡ true
  pub frames : ℕ × ℕ
  pub frames_are : frame_rate c.frame_rate_code c.frame_rate_extension_n c.frame_rate_extension_d ≡ value frames
  pub model : VbvCbrModel
  pub model_is : new_model_at c.mode.variable (writer_params c frames) ≡ value model
  pub writer_is : fresh_writer c model ≡ w

pub creation-found : (c : CbrConfig) (w : CbrWriter) → create c ≡ value w → Creation c w
unfolding create
creation-found c w h =
    let a = was_held (config_fits c) _ _ refused-value h in
    let f = then_value (frame_rate c.frame_rate_code c.frame_rate_extension_n c.frame_rate_extension_d) a.1 in
    let m = then_value (new_model_at c.mode.variable (writer_params c f.0)) f.2 in
    record { ranges = a.0; frames = f.0; frames_are = f.1; model = m.0; model_is = m.1; writer_is = same_value m.2 }

-- ---- the writer

pub record Fresh (w : CbrWriter) : Type 0 where
  pub inv : Inv 0 w
  pub params_fit : params_fit_at w.variable w.model.params ≡ true
  pub unplaced : w.model.started ≡ false
  pub at_zero : w.model.prev_end_bits ≡ 0
  pub unstuffed : w.stuffing_bytes ≡ 0

fresh_writer_lem : {c : CbrConfig} {w : CbrWriter} (x : Creation c w) → Fresh (fresh_writer c x.model)
unfolding fresh_writer all_fit
fresh_writer_lem {c} x =
    let a = made_at c.mode.variable (writer_params c x.frames) x.model x.model_is in
    let f = config_ranges c x.ranges in
    let t = targets_fit c c.mode.variable x.frames _ (Ok x.model) x.model refl (sym x.model_is) refl f in
    record {
      inv =
          record {
            fits =
                fitting-writer _
                (record {
                  model_fits_lem = a.fits;
                  whole_bytes = rw a.at_zero;
                  few = rw (a.at_zero, a.none_removed) (omega arith);
                  stuffed = omega arith;
                  targets = targets-low _ _ _ t;
                  quantisers = simp (is_quantiser (record { low = f.quantiser_low; high = f.quantiser_high }));
                  pending = none-fits;
                  cadence = opened-fits c.mode.film false false;
                });
            three = refl;
            none_yet = λ e. a.at_zero;
            waiting = refl;
            room = λ s e. absurd (true≢false (sym s ∙ a.unstarted));
          };
      params_fit = rw a.params_kept a.params_fit;
      unplaced = a.unstarted;
      at_zero = a.at_zero;
      unstuffed = refl;
    }

pub created_fresh : (c : CbrConfig) (w : CbrWriter) → create c ≡ value w → Fresh w
created_fresh c w h = let x = creation-found c w h in rw (← x.writer_is) (fresh_writer_lem x)
