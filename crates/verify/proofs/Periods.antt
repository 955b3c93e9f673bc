-- The periods in the records are those of the gain, and go by the pictures' structure.
-- Assumes nothing.
use mathlib.Core.Path.{◌≡◌, sym, ap, subst, ◌∙◌}
use mathlib.Core.Bool.{Bool, true, false}
use mathlib.Core.List.{List, [], ◌∷◌}
use Prim.Native.Nat.{ℕ}
use Rattle.vbv.specs.Annex.{first_arrived, arrived}
use Rattle.bits.specs.Refusals.{value}
use Rattle.vbv.specs.Model.{periods, interval_of}
use Rattle.vbv.specs.declared.VbvParams.{VbvParams}
use Rattle.vbv.proofs.Fitting.{field-lasts, frame_lasts_lem}
use Rattle.picture_header.specs.declared.PictureFacts.{PictureFacts}
use Rattle.cadence.specs.Cadence.{after}
use Rattle.cadence.specs.History.{cadence_after}
use Rattle.cadence.specs.declared.VbvCadence.{VbvCadence}
use Rattle.cadence.proofs.Plain.{outside_film}
use Rattle.cadence.proofs.Keeping.{film_kept, after_none, after_more}
use Rattle.cadence.proofs.History.{by_history}
use Rattle.pictures.specs.Cadence.{cadence_of}
use Rattle.pictures.proofs.Cadences.{of-film, first-cadence}
use Rattle.pictures.specs.Seen.{seen_pictures}
use Rattle.pictures.specs.declared.SeenPicture.{SeenPicture}
use Rattle.pictures.specs.declared.VbvStandard.{VbvStandard}
use Rattle.pictures.specs.declared.VbvStandard.TheVariants.{Mpeg1}
use Rattle.pictures.proofs.Order.{Frames, first_frame, other_frames, all_frames}
use Rattle.verify.specs.Coded.{timed}
use Rattle.verify.specs.Run.{record_of}
use Rattle.verify.specs.Accepted as ac
use Rattle.verify.specs.Accepted.{Conforms, Along}
use Rattle.verify.specs.Periods.{Counted, no_more, one_more, Lasts, Paired, none, more, FilmPaired, no_picture, picture_then, FilmTimed, no_coded, coded_then, PeriodsTold}
use Rattle.verify.specs.declared.CodedPicture.{CodedPicture}
use Rattle.verify.specs.declared.VbvPictureRecord.{VbvPictureRecord}

periods_are : {v : Bool} {p : VbvParams} {previous d : ℕ} {c : CodedPicture} {r : VbvPictureRecord} → Conforms v p previous d c r → r.periods ≡ periods c.interval
unfolding record_of
periods_are w = ap (λ (q : VbvPictureRecord). q.periods) w.record_is

counted : {v : Bool} {p : VbvParams} {previous d : ℕ} {cs : List CodedPicture} {rs : List VbvPictureRecord} → Along v p (Conforms v p) previous d cs rs → Counted v p previous d cs rs
counted ac.none = no_more
counted (ac.more {cs = cs} {rs = rs} w t) = one_more {cs = cs} {rs = rs} w (rw (periods_are w) (counted t))

lasts : {standard : VbvStandard} {x : SeenPicture} {r : VbvPictureRecord} → (standard ≡ Mpeg1 → x.facts.field ≡ false)
    → r.periods ≡ periods (interval_of x.facts.field) → Lasts standard x r
lasts f h = record { a_field = λ e. h ∙ rw e field-lasts; a_frame = λ e. h ∙ rw e frame_lasts_lem; in_mpeg_1 = λ e. h ∙ rw (f e) frame_lasts_lem }

paired : {v : Bool} {p : VbvParams} {previous d : ℕ} {standard : VbvStandard} (k : VbvCadence) (xs : List SeenPicture) {rs : List VbvPictureRecord} → k.film ≡ false → (standard ≡ Mpeg1 → Frames xs)
    → Along v p (Conforms v p) previous d (timed k xs) rs → Paired standard xs rs
unfolding timed
paired k [] z f ac.none = none
paired {v} {p} {previous} {d} {standard} k (x ∷ xs) z f (ac.more {c = c} {rs = rs} w t) =
    more (lasts (λ e. first_frame (f e)) (periods_are w ∙ ap periods (outside_film.as_before k x.facts z)))
    (paired {v = v} {p = p} {previous = c.end_bits} {d = arrived v p c.end_bits d (periods c.interval)} {standard = standard} (after k x.facts) xs (rw (film_kept k x.facts) z) (λ e. other_frames (f e)) t)

frames_in : (standard : VbvStandard) (s : List ℕ) (xs : List SeenPicture) → seen_pictures standard s ≡ value xs → standard ≡ Mpeg1 → Frames xs
frames_in standard s xs h e = all_frames s xs (rw e at h)

-- in film mode, by the pictures before
film_paired : {v : Bool} {p : VbvParams} {previous d : ℕ} (progressive low : Bool) (before : List PictureFacts) (xs : List SeenPicture) {rs : List VbvPictureRecord}
    → Along v p (Conforms v p) previous d (timed (cadence_after progressive low before) xs) rs → FilmPaired progressive low before xs rs
unfolding timed
film_paired progressive low before [] ac.none = no_picture
film_paired {v} {p} progressive low before (x ∷ xs) (ac.more {previous = previous} {d = d} {c = c} {rs = rs} w t) =
    picture_then {rs = rs} (periods_are w ∙ by_history progressive low before x.facts)
    (film_paired {v = v} {p = p} {previous = c.end_bits} {d = arrived v p c.end_bits d (periods c.interval)} progressive low (x.facts ∷ before) xs (rw (after_more progressive low before x.facts) t))

film_timed : (progressive low : Bool) (before : List PictureFacts) (xs : List SeenPicture)
    → FilmTimed progressive low before xs (timed (cadence_after progressive low before) xs)
unfolding timed
film_timed progressive low before [] = no_coded
film_timed progressive low before (x ∷ xs) =
    coded_then {xs = xs} {cs = timed (after (cadence_after progressive low before) x.facts) xs} (by_history progressive low before x.facts)
    (rw (← after_more progressive low before x.facts) (film_timed progressive low (x.facts ∷ before) xs))

-- before its first picture a film stream has seen none
none_seen : (s : List ℕ) → cadence_of true s ≡ cadence_after (cadence_of true s).progressive (cadence_of true s).low_delay []
none_seen s = first-cadence s ∙ sym (after_none _ _)

pub periods_told : PeriodsTold
periods_told = record {
  up_to_next = λ m s places p rs a. counted a.removals;
  by_structure = λ m s places p rs a z.
      paired (cadence_of m.film s) (a.first ∷ a.others) (rw (of-film m.film s) z) (frames_in m.standard s (a.first ∷ a.others) a.is_read.is_read.pictures_are) a.removals;
  by_film = λ m s places p rs a z.
      film_paired (cadence_of true s).progressive (cadence_of true s).low_delay [] (a.first ∷ a.others)
      (subst (λ (k : VbvCadence). Along m.variable p (Conforms m.variable p) 0 (first_arrived m.variable p a.first.pos_bits a.first.vbv_delay) (timed k (a.first ∷ a.others)) rs) (ap (λ (b : Bool). cadence_of b s) z ∙ none_seen s) a.removals);
  film_timed = λ s xs.
      subst (λ (k : VbvCadence). FilmTimed (cadence_of true s).progressive (cadence_of true s).low_delay [] xs (timed k xs)) (sym (none_seen s))
      (film_timed (cadence_of true s).progressive (cadence_of true s).low_delay [] xs);
}
