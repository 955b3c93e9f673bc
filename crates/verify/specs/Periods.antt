-- What is owed of the periods in the records (requests 04 and 05): the field periods up to the next removal. Outside film 1 for a field picture and 2 for a frame, and repeat_first_field does
-- not count (docs/DIFFERENCES.md); in film mode what the pictures before tell (cadence/specs/History.antt). The last picture has its own too, though no removal follows. Assumes nothing.
use Rattle.std.specs.Prelude.{ℕ, ◌≡◌, Bool, true, false, List, [], ◌∷◌}
use Rattle.vbv.specs.Annex.{first_arrived, arrived}
use Rattle.vbv.specs.Model.{periods}
use Rattle.vbv.specs.declared.RemovalInterval.{RemovalInterval}
use Rattle.vbv.specs.declared.VbvParams.{VbvParams}
use Rattle.picture_header.specs.declared.PictureFacts.{PictureFacts}
use Rattle.cadence.specs.History.{lasts_after}
use Rattle.pictures.specs.Cadence.{cadence_of}
use Rattle.pictures.specs.declared.VbvStandard.{VbvStandard}
use Rattle.pictures.specs.declared.VbvStandard.TheVariants.{Mpeg1}
use Rattle.pictures.specs.declared.SeenPicture.{SeenPicture}
use Rattle.verify.specs.Coded.{coded_of, timed}
use Rattle.verify.specs.Accepted.{Conforms, Passes, timed_in}
use Rattle.verify.specs.declared.VbvMode.{VbvMode}
use Rattle.verify.specs.declared.CodedPicture.{CodedPicture}
use Rattle.verify.specs.declared.VbvPictureRecord.{VbvPictureRecord}

-- one removal after another, each with its record, as in `Along`; but by the next one the field periods that the record tells bring the gain (C.9, C.11)
pub data Counted (v : Bool) (p : VbvParams) : ℕ → ℕ → List CodedPicture → List VbvPictureRecord → Type 0 where
  no_more : {previous d : ℕ} → Counted v p previous d [] []
  one_more : {previous d : ℕ} {c : CodedPicture} {cs : List CodedPicture} {r : VbvPictureRecord} {rs : List VbvPictureRecord} → Conforms v p previous d c r
      → Counted v p c.end_bits (arrived v p c.end_bits d r.periods) cs rs → Counted v p previous d (c ∷ cs) (r ∷ rs)

-- a picture as its headers show it, and its record, outside film
pub record Lasts (standard : VbvStandard) (x : SeenPicture) (r : VbvPictureRecord) : Type 0 where
  pub a_field : x.facts.field ≡ true → r.periods ≡ 1
  pub a_frame : x.facts.field ≡ false → r.periods ≡ 2
  -- MPEG-1 pictures are all frames
  pub in_mpeg_1 : standard ≡ Mpeg1 → r.periods ≡ 2

-- each picture with its record
pub data Paired (standard : VbvStandard) : List SeenPicture → List VbvPictureRecord → Type 0 where
  none : Paired standard [] []
  more : {x : SeenPicture} {xs : List SeenPicture} {r : VbvPictureRecord} {rs : List VbvPictureRecord} → Lasts standard x r → Paired standard xs rs → Paired standard (x ∷ xs) (r ∷ rs)

-- in film mode, after the pictures `before`, the latest first
pub data FilmPaired (progressive low : Bool) : List PictureFacts → List SeenPicture → List VbvPictureRecord → Type 0 where
  no_picture : {before : List PictureFacts} → FilmPaired progressive low before [] []
  picture_then : {before : List PictureFacts} {x : SeenPicture} {xs : List SeenPicture} {r : VbvPictureRecord} {rs : List VbvPictureRecord}
      → r.periods ≡ lasts_after progressive low before x.facts → FilmPaired progressive low (x.facts ∷ before) xs rs → FilmPaired progressive low before (x ∷ xs) (r ∷ rs)

-- and of pictures as the model sees them, so of refused streams too
pub data FilmTimed (progressive low : Bool) : List PictureFacts → List SeenPicture → List CodedPicture → Type 0 where
  no_coded : {before : List PictureFacts} → FilmTimed progressive low before [] []
  coded_then : {before : List PictureFacts} {x : SeenPicture} {xs : List SeenPicture} {i : RemovalInterval} {cs : List CodedPicture}
      → periods i ≡ lasts_after progressive low before x.facts → FilmTimed progressive low (x.facts ∷ before) xs cs → FilmTimed progressive low before (x ∷ xs) (coded_of i x ∷ cs)

-- what is owed, of every stream that the check accepts (`Passes`: these and no others, specs/Accepted.antt)
pub record PeriodsTold : Type 0 where
  pub up_to_next : (m : VbvMode) (s : List ℕ) (places : ℕ) (p : VbvParams) (rs : List VbvPictureRecord) (a : Passes m s places p rs)
      → Counted m.variable p 0 (first_arrived m.variable p a.first.pos_bits a.first.vbv_delay) (timed_in m s (a.first ∷ a.others)) rs
  pub by_structure : (m : VbvMode) (s : List ℕ) (places : ℕ) (p : VbvParams) (rs : List VbvPictureRecord) (a : Passes m s places p rs) → m.film ≡ false
      → Paired m.standard (a.first ∷ a.others) rs
  -- progressive_sequence and low_delay are those of the extension after the first sequence header (`SequenceOpens`, pictures/specs/Due.antt)
  pub by_film : (m : VbvMode) (s : List ℕ) (places : ℕ) (p : VbvParams) (rs : List VbvPictureRecord) (a : Passes m s places p rs) → m.film ≡ true
      → FilmPaired (cadence_of true s).progressive (cadence_of true s).low_delay [] (a.first ∷ a.others) rs
  pub film_timed : (s : List ℕ) (xs : List SeenPicture) → FilmTimed (cadence_of true s).progressive (cadence_of true s).low_delay [] xs (timed (cadence_of true s) xs)
