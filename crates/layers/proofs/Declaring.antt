-- Headers declare parameters exactly when they show them.
-- Assumes nothing.
use mathlib.Core.Path.{◌≡◌, sym, ap, ◌∙◌}
use mathlib.Core.Bool.{true}
use mathlib.Core.List.{List}
use Prim.Native.Nat.{ℕ}
use Rattle.vbv.specs.Model.{params_in_range}
use Rattle.vbv.specs.declared.VbvParams.{VbvParams}
use Rattle.vbv.proofs.Params.{params-rate, params_buffer, params_frn, params_frd, same_by}
use Rattle.vbv.proofs.Cases.{frames-found}
use Rattle.vbv.proofs.Scale.{same_value}
use Rattle.pictures.proofs.Showing.{declared_from, sequence_declares}
use Rattle.layers.specs.Headers.{declares, Shows, HeadersDeclare}
use Rattle.layers.proofs.Laws.{declares-same}

module _ (p : VbvParams) (h : List ℕ) where
  declaring : declares p h ≡ true → Shows p h
  declaring e =
      let a = declares-same p h e in
      let v = same_value p a.params a.same in
      let d = declared_from h a.params a.by_headers in
      let z = d.params_from in
      let frn : a.params.frn ≡ d.frames.0 = ap (λ (y : VbvParams). y.frn) (sym z) ∙ params_frn _ _ d.frames in
      let frd : a.params.frd ≡ d.frames.1 = ap (λ (y : VbvParams). y.frd) (sym z) ∙ params_frd _ _ d.frames in
      record {
        shown = d.read;
        parsed = d.parsed;
        rate_is = sym (params-rate _ _ d.frames) ∙ ap (λ (y : VbvParams). y.bit_rate) z ∙ v.rate;
        buffer_is = sym (params_buffer _ _ d.frames) ∙ ap (λ (y : VbvParams). y.buffer_size_bits) z ∙ v.size;
        frames = d.frames;
        looked_up = d.looked_up;
        same_value = rw (← frn, ← frd) (sym v.frames);
      }

  showing : params_in_range p ≡ true → Shows p h → declares p h ≡ true
  unfolding declares
  showing i s =
      rw (sequence_declares.of_mpeg2 h s.shown s.frames s.parsed s.looked_up)
      (same_by p _ i s.rate_is s.buffer_is (frames-found _ _ _ s.frames s.looked_up) s.same_value)

pub headers_declare : HeadersDeclare
headers_declare p h i = (declaring p h, showing p h i)
