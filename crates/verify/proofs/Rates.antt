-- Only the value of a frame rate counts: removal by removal, and so for the report, the records and every refusal.
-- Assumes nothing.
use mathlib.Core.Path.{◌≡◌, refl}
use mathlib.Core.Bool.{Bool, true, false}
use mathlib.Core.List.{List, [], ◌∷◌}
use Prim.Native.Nat.{ℕ, suc}
use Rattle.bits.specs.Bits.{pick}
use Rattle.bits.specs.Refusals.{Answer, value, refused, and_then}
use Rattle.bits.proofs.Flags.{pick-alike}
use Rattle.vbv.specs.Annex.{first_arrived}
use Rattle.vbv.specs.Model.{periods}
use Rattle.vbv.specs.Params.{same_params}
use Rattle.vbv.specs.Rates.{SameBits, SameTold}
use Rattle.vbv.specs.declared.VbvParams.{VbvParams}
use Rattle.vbv.proofs.Scale.{SameValue, same_value, same_told}
use Rattle.pictures.specs.Front.{Front, front}
use Rattle.pictures.specs.Cadence.{cadence_of}
use Rattle.pictures.specs.declared.SeenPicture.{SeenPicture}
use Rattle.verify.specs.Run.{record_of, taken_out, removal, run}
use Rattle.verify.specs.Check.{Accepted, accepted, modelled, with_pictures, verdict_by, verdict, reported, records}
use Rattle.verify.specs.Rates.{SameAnswer, ValueReports}
use Rattle.verify.specs.declared.VbvMode.{VbvMode}
use Rattle.verify.specs.declared.CodedPicture.{CodedPicture}
use Rattle.verify.specs.declared.VbvPictureRecord.{VbvPictureRecord}
use Rattle.verify.proofs.Delays.{pictures_are}

module _ {p q : VbvParams} (t : SameTold p q) where
  same_taken : (v : Bool) (n previous d e : ℕ) → SameBits p q d e → (c : CodedPicture) → taken_out v p n previous d c ≡ taken_out v q n previous e c
  unfolding taken_out record_of
  same_taken v n previous d e s c = rw (t.underflow c.end_bits d e s, t.expected_at_lem v c.pos_bits d e s, t.held previous d e s)

  same-removal : (v : Bool) (n previous d e : ℕ) → SameBits p q d e → (c : CodedPicture) → removal v p n previous d c ≡ removal v q n previous e c
  unfolding removal
  same-removal true n previous d e s c = same_taken true n previous d e s c
  same-removal false n previous d e s c =
      rw (t.underflow c.pos_bits d e s, t.expected c.pos_bits d e s, t.overflow previous d e s, same_taken false n previous d e s c)

  pub same-run : (v : Bool) (n previous d e : ℕ) → SameBits p q d e → (cs : List CodedPicture) → run v p n previous d cs ≡ run v q n previous e cs
  unfolding run
  same-run v n previous d e s [] = refl
  same-run v n previous d e s (c ∷ cs) =
      rw (same-removal v n previous d e s c, same-run v (suc n) c.end_bits _ _ (t.next_arrived v c.end_bits d e (periods c.interval) s) cs)

-- an accepted run is reported alike
module _ {p q : VbvParams} (v : SameValue p q) where
  same-reported : (a : Answer (List VbvPictureRecord)) → reported (and_then a (accepted p)) ≡ reported (and_then a (accepted q))
  same-reported (value []) = refl
  same-reported (value (r ∷ rs)) = rw (v.rate, v.size)
  same-reported (refused n k c e) = refl

  same-records : (a : Answer (List VbvPictureRecord)) → records (and_then a (accepted p)) ≡ records (and_then a (accepted q))
  same-records (value []) = refl
  same-records (value (r ∷ rs)) = refl
  same-records (refused n k c e) = refl

-- past a test that both have in common
past : {X Y : Type 0} (g : X → Y) (b : Bool) (x : X) {y z : X} → g y ≡ g z → g (pick b x y) ≡ g (pick b x z)
unfolding pick
past g true x h = refl
past g false x h = h

module _ (p q : VbvParams) (h : same_params p q ≡ true) (v : Bool) (places : ℕ) (x : SeenPicture) (cs : List CodedPicture) where
  told : SameTold p q
  told = same_told p q h

  abbrev ran : VbvParams → Answer (List VbvPictureRecord)
  ran r = run v r 0 0 (first_arrived v r x.pos_bits x.vbv_delay) cs

  same_ran : ran p ≡ ran q
  same_ran = same-run told v 0 0 _ _ (told.first_arrived_lem v x.pos_bits x.vbv_delay) cs

  through : {Y : Type 0} (g : Answer Accepted → Y) → ((a : Answer (List VbvPictureRecord)) → g (and_then a (accepted p)) ≡ g (and_then a (accepted q)))
      → g (with_pictures v places p x cs) ≡ g (with_pictures v places q x cs)
  unfolding modelled
  through g k = rw (pictures_are v places p x cs, pictures_are v places q x cs, told.fits_at v, same_ran) (past g _ _ (past g _ _ (past g _ _ (k (ran q)))))

same-pictures : (p q : VbvParams) → same_params p q ≡ true → (v : Bool) (places : ℕ) (x : SeenPicture) (cs : List CodedPicture)
    → SameAnswer (with_pictures v places p x cs) (with_pictures v places q x cs)
same-pictures p q h v places x cs =
    (through p q h v places x cs reported (same-reported (same_value p q h)), through p q h v places x cs records (same-records (same_value p q h)))

same_streams : (m : VbvMode) (s t : List ℕ) (places : ℕ) (f g : Front) → front m.standard s ≡ value f → front m.standard t ≡ value g
    → same_params f.params g.params ≡ true → f.first ≡ g.first → f.others ≡ g.others → cadence_of m.film s ≡ cadence_of m.film t
    → SameAnswer (verdict m s places) (verdict m t places)
unfolding verdict verdict_by
same_streams m s t places f g a b h e k c =
    rw (a, b, c, e, k)
    (pick-alike SameAnswer _ (refl, refl) λ z. same-pictures f.params g.params h m.variable places g.first _)

pub value_reports : ValueReports
value_reports = record { of_pictures = same-pictures; of_streams = same_streams }
