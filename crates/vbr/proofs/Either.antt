-- The model at a variable rate or a constant one: what is the same of both, for callers that have the choice as a flag.
-- Assumes nothing.
use mathlib.Core.Path.{◌≡◌, refl, sym, subst, ◌∙◌}
use mathlib.Core.Bool.{Bool, true, false}
use mathlib.Core.List.{[], ◌∷◌}
use Prim.Native.Nat.{ℕ}
use Rattle.std.specs.Prelude.{Ok, Err}
use Rattle.bits.specs.Numbers.{Numbered}
use Rattle.bits.specs.Refusals.{Answer, value, refused}
use Rattle.bits.proofs.Following.{same_value}
use Rattle.vbv.specs.Annex.{overflows, beyond, arrived}
use Rattle.vbv.specs.Model.{params_fit_at, model_in_range, after_removal, periods}
use Rattle.vbv.specs.Steps.{EndFits, model_of}
use Rattle.vbv.specs.declared.RemovalInterval.{RemovalInterval}
use Rattle.vbv.specs.declared.VbvParams.{VbvParams}
use Rattle.vbv.specs.declared.VbvCbrModel.{VbvCbrModel}
use Rattle.vbv.specs.declared.VbvError.TheVariants.{Params}
use Rattle.vbv.proofs.After as after
use Rattle.vbv.proofs.Cases.{model_at, zero-model}
use Rattle.vbv.proofs.Fitting.{fits-model_range}
use Rattle.vbv.proofs.Laws.{fits-params, model-made}
use Rattle.vbv.proofs.Named.{unmade_named, makes_named}
use Rattle.vbv.proofs.Numbering.{model_numbers}
use Rattle.vbv.proofs.Told.{unmade, makes}
use Rattle.vbr.specs.Variable.{model_fits_at, new_model_at}
use Rattle.vbr.proofs.Fitting.{fits_range}
use Rattle.vbr.proofs.Laws.{variable-params, variable-made, variable_unmade, variable_makes, after-fits}
use Rattle.vbr.proofs.Named.{variable_unmade_named, variable_makes_named}
use Rattle.vbr.proofs.Numbers.{variable_numbers}

-- a state that fits has parameters that fit, and is in its ranges
pub fits-params-at : (v : Bool) (m : VbvCbrModel) → model_fits_at v m ≡ true → params_fit_at v m.params ≡ true
fits-params-at true m f = variable-params m f
fits-params-at false m f = fits-params m f

pub fits_range_at : (v : Bool) (m : VbvCbrModel) → model_fits_at v m ≡ true → model_in_range m ≡ true
fits_range_at true m f = fits_range m f
fits_range_at false m f = fits-model_range m f

-- a model made of parameters
pub record MadeAt (v : Bool) (p : VbvParams) (m : VbvCbrModel) : Type 0 where
  pub params_fit : params_fit_at v p ≡ true
  pub params_kept : m.params ≡ p
  pub at_zero : m.prev_end_bits ≡ 0
  pub none_removed : m.removed ≡ 0
  pub unstarted : m.started ≡ false
  pub fits : model_fits_at v m ≡ true

pub made_at : (v : Bool) (p : VbvParams) (m : VbvCbrModel) → new_model_at v p ≡ value m → MadeAt v p m
made_at true p m h =
    let a = variable-made p m h in
    record {
      params_fit = a.params_fit;
      params_kept = a.params_kept;
      at_zero = a.at_zero;
      none_removed = a.none_removed;
      unstarted = a.unstarted;
      fits = a.fits;
    }
made_at false p m h =
    let a = model-made p m h in
    record {
      params_fit = a.params_fit;
      params_kept = a.params_kept;
      at_zero = a.at_zero;
      none_removed = a.none_removed;
      unstarted = a.unstarted;
      fits = a.fits;
    }

pub unmade_at : (v : Bool) (p : VbvParams) → params_fit_at v p ≡ false → new_model_at v p ≡ refused 12 0 0 0
unmade_at true p h = variable_unmade p h
unmade_at false p h = unmade p h

pub makes_at : (v : Bool) (p : VbvParams) → params_fit_at v p ≡ true
    → new_model_at v p ≡ value (record { params = p; whole = 0; rest = 0; prev_end_bits = 0; removed = 0; started = false })
makes_at true p h = variable_makes p h
makes_at false p h = makes p h

pub unmade_named_at : (v : Bool) (p : VbvParams) → params_fit_at v p ≡ false → model_of (new_model_at v p) ≡ Err Params
unmade_named_at true p h = variable_unmade_named p h
unmade_named_at false p h = unmade_named p h

pub makes_named_at : (v : Bool) (p : VbvParams) → params_fit_at v p ≡ true
    → model_of (new_model_at v p) ≡ Ok (record { params = p; whole = 0; rest = 0; prev_end_bits = 0; removed = 0; started = false })
makes_named_at true p h = variable_makes_named p h
makes_named_at false p h = makes_named p h

pub new_numbered_at : (v : Bool) (p : VbvParams) → Numbered (12 ∷ []) [] [] (new_model_at v p)
new_numbered_at true p = variable_numbers.new p
new_numbered_at false p = model_numbers.new p

-- a new model, or parameters that do not fit
pub data NewModelAt (v : Bool) (p : VbvParams) : Answer VbvCbrModel → Type 0 where
  made : params_fit_at v p ≡ true → NewModelAt v p (value (model_at p 0 0 0 false))
  unfit : params_fit_at v p ≡ false → NewModelAt v p (refused 12 0 0 0)

pub new_model_at_lem : (v : Bool) (p : VbvParams) → NewModelAt v p (new_model_at v p)
new_model_at_lem v p = go (params_fit_at v p) refl
  where
    go : (t : Bool) → params_fit_at v p ≡ t → NewModelAt v p (new_model_at v p)
    go true h = rw (makes_at v p h) (subst (λ (m : VbvCbrModel). NewModelAt v p (value m)) (zero-model p) (made h))
    go false h = rw (unmade_at v p h) (unfit h)

pub made-at_is : (v : Bool) (p : VbvParams) (m : VbvCbrModel) → new_model_at v p ≡ value m → m ≡ model_at p 0 0 0 false
made-at_is v p m h = same_value (sym h ∙ makes_at v p (made_at v p m h).params_fit) ∙ sym (zero-model p)

-- validity is kept by a removal with d units delivered, whatever the model itself said
pub after-fits_at : (v : Bool) (m : VbvCbrModel) (d : ℕ) → model_fits_at v m ≡ true → overflows m.params m.prev_end_bits d ≡ false
    → (end : ℕ) (i : RemovalInterval) → EndFits m end → beyond m.params end d ≡ false
    → model_fits_at v (after_removal m end (arrived v m.params end d (periods i))) ≡ true
after-fits_at true m d f o end i g u = after-fits m end d (periods i) f g
after-fits_at false m d f o end i g u = after.after-fits m f d o end i g u
