-- How long each picture lasts in film mode (paper 02, request 05), as a table: its field periods, and what it leaves; and worked lists. Both hold the definition from outside.
-- Assumes nothing.
use Rattle.std.specs.Prelude.{ℕ, ◌+◌, ◌≡◌, Bool, true, false, List, [], ◌∷◌}
use Rattle.headers.specs.Answers.{flag_of}
use Rattle.vbv.specs.Model.{periods}
use Rattle.picture_header.specs.declared.PictureFacts.{PictureFacts}
use Rattle.cadence.specs.Cadence.{opened, interval, after}
use Rattle.cadence.specs.declared.OpenField.{OpenField}
use Rattle.cadence.specs.declared.OpenField.TheVariants.{Closed, LedByAnchor, LedByOther}
use Rattle.cadence.specs.declared.VbvCadence.{VbvCadence}

-- ---- the table

-- a film sequence: progressive_sequence, low_delay, the previous anchor's flags R and T, the open field
abbrev pub film : Bool → Bool → Bool → Bool → OpenField → VbvCadence
film progressive low R T o = record { film = true; progressive = progressive; low_delay = low; repeat = R; top = T; waiting = o }

-- a frame and a field, of I or P or of B, with repeat_first_field r and top_field_first t
abbrev pub frame_of : Bool → Bool → Bool → PictureFacts
frame_of anchor r t = record { anchor = anchor; field = false; repeat = r; top = t }

abbrev pub field_of : Bool → Bool → Bool → PictureFacts
field_of anchor r t = record { anchor = anchor; field = true; repeat = r; top = t }

abbrev pub lasts : VbvCadence → PictureFacts → ℕ
lasts k x = periods (interval k x)

-- 'In progressive sequences a frame lasts 2, with the flag 4, with the flag and top_field_first 6'
abbrev pub frames : Bool → Bool → ℕ
frames false t = 2
frames true false = 4
frames true true = 6

-- what is owed; l is low_delay, o the open field
pub record Periods : Type 0 where
  -- 'a frame B picture lasts 2 periods, 3 with repeat_first_field'
  pub b_frame : (l R T : Bool) (o : OpenField) (r t : Bool) → lasts (film false l R T o) (frame_of false r t) ≡ 2 + flag_of r
  -- 'an I or P frame takes 2 or 3 by that flag of the previous anchor'; a field left over led by I or P is one without it
  pub anchor_frame : (R T r t : Bool) → lasts (film false false R T Closed) (frame_of true r t) ≡ 2 + flag_of R
  pub anchor_after_b_field : (R T r t : Bool) → lasts (film false false R T LedByOther) (frame_of true r t) ≡ 2 + flag_of R
  pub anchor_after_field : (R T r t : Bool) → lasts (film false false R T LedByAnchor) (frame_of true r t) ≡ 2
  -- 'With low_delay 1 a frame uses its own flag'
  pub low_delay : (R T : Bool) (o : OpenField) (r t : Bool) → lasts (film false true R T o) (frame_of true r t) ≡ 2 + flag_of r
  -- 'In progressive sequences .. both read from the same frame as above'
  pub progressive_b : (l R T : Bool) (o : OpenField) (r t : Bool) → lasts (film true l R T o) (frame_of false r t) ≡ frames r t
  pub progressive_anchor : (R T r t : Bool) → lasts (film true false R T Closed) (frame_of true r t) ≡ frames R T
  pub progressive_after_b_field : (R T r t : Bool) → lasts (film true false R T LedByOther) (frame_of true r t) ≡ frames R T
  pub progressive_after_field : (R T r t : Bool) → lasts (film true false R T LedByAnchor) (frame_of true r t) ≡ 2
  pub progressive_low_delay : (R T : Bool) (o : OpenField) (r t : Bool) → lasts (film true true R T o) (frame_of true r t) ≡ frames r t
  -- 'Fields last 1, but the second field of a pair led by I or P lasts 2 if the anchor before the pair has the flag'
  pub first_field : (p l R T a r t : Bool) → lasts (film p l R T Closed) (field_of a r t) ≡ 1
  pub second_after_b : (p l R T a r t : Bool) → lasts (film p l R T LedByOther) (field_of a r t) ≡ 1
  pub second_after_anchor : (R T a r t : Bool) → lasts (film false false R T LedByAnchor) (field_of a r t) ≡ 1 + flag_of R
  -- 'there, and in progressive sequences, every field lasts 1'
  pub second_low_delay : (p R T a r t : Bool) → lasts (film p true R T LedByAnchor) (field_of a r t) ≡ 1
  pub second_progressive : (l R T a r t : Bool) → lasts (film true l R T LedByAnchor) (field_of a r t) ≡ 1

pub record Leaves : Type 0 where
  -- an I or P frame is the anchor now; a B frame leaves the one before it
  pub anchor_frame : (p l R T : Bool) (o : OpenField) (r t : Bool) → after (film p l R T o) (frame_of true r t) ≡ film p l r t Closed
  pub b_frame : (p l R T r t : Bool) → after (film p l R T Closed) (frame_of false r t) ≡ film p l R T Closed
  pub b_after_b_field : (p l R T r t : Bool) → after (film p l R T LedByOther) (frame_of false r t) ≡ film p l R T Closed
  -- 'a pair, or a field left over, led by I or P is an anchor without the flag'
  pub b_after_field : (p l R T r t : Bool) → after (film p l R T LedByAnchor) (frame_of false r t) ≡ film p l false false Closed
  pub pair_of_anchor : (p l R T a r t : Bool) → after (film p l R T LedByAnchor) (field_of a r t) ≡ film p l false false Closed
  pub pair_of_b : (p l R T a r t : Bool) → after (film p l R T LedByOther) (field_of a r t) ≡ film p l R T Closed
  -- 'Consecutive fields pair up'
  pub first_anchor : (p l R T r t : Bool) → after (film p l R T Closed) (field_of true r t) ≡ film p l R T LedByAnchor
  pub first_b : (p l R T r t : Bool) → after (film p l R T Closed) (field_of false r t) ≡ film p l R T LedByOther

-- ---- worked lists

-- A an I or P frame, B a B frame, a an I or P field, b a B field; ' with the flag, '' with the flag and top_field_first, ^ with top_field_first alone
abbrev pub A : PictureFacts
A = frame_of true false false

abbrev pub A' : PictureFacts
A' = frame_of true true false

abbrev pub A'' : PictureFacts
A'' = frame_of true true true

abbrev pub A^ : PictureFacts
A^ = frame_of true false true

abbrev pub B : PictureFacts
B = frame_of false false false

abbrev pub B' : PictureFacts
B' = frame_of false true false

abbrev pub B'' : PictureFacts
B'' = frame_of false true true

abbrev pub a : PictureFacts
a = field_of true false false

abbrev pub b : PictureFacts
b = field_of false false false

unfoldable pub all_periods : VbvCadence → List PictureFacts → List ℕ
all_periods k [] = []
all_periods k (x ∷ xs) = lasts k x ∷ all_periods (after k x) xs

-- the periods of a list in an interlaced sequence, with low_delay, in a progressive one, and in a progressive one with low_delay
pub record Lists (xs : List PictureFacts) (interlaced low progressive both : List ℕ) : Type 0 where
  pub interlaced_is : all_periods (opened true false false) xs ≡ interlaced
  pub low_is : all_periods (opened true false true) xs ≡ low
  pub progressive_is : all_periods (opened true true false) xs ≡ progressive
  pub both_is : all_periods (opened true true true) xs ≡ both

pub record Worked : Type 0 where
  pub anchors : Lists (A' ∷ A ∷ A ∷ []) (2 ∷ 3 ∷ 2 ∷ []) (3 ∷ 2 ∷ 2 ∷ []) (2 ∷ 4 ∷ 2 ∷ []) (4 ∷ 2 ∷ 2 ∷ [])
  pub b_between : Lists (A' ∷ B' ∷ A ∷ []) (2 ∷ 3 ∷ 3 ∷ []) (3 ∷ 3 ∷ 2 ∷ []) (2 ∷ 4 ∷ 4 ∷ []) (4 ∷ 4 ∷ 2 ∷ [])
  -- no anchor before I
  pub b_first : Lists (B' ∷ A ∷ []) (3 ∷ 2 ∷ []) (3 ∷ 2 ∷ []) (4 ∷ 2 ∷ []) (4 ∷ 2 ∷ [])
  -- a pair of I and P fields
  pub pair : Lists (A' ∷ a ∷ a ∷ A ∷ []) (2 ∷ 1 ∷ 2 ∷ 2 ∷ []) (3 ∷ 1 ∷ 1 ∷ 2 ∷ []) (2 ∷ 1 ∷ 1 ∷ 2 ∷ []) (4 ∷ 1 ∷ 1 ∷ 2 ∷ [])
  -- a field left over
  pub left_over : Lists (A' ∷ a ∷ A ∷ []) (2 ∷ 1 ∷ 2 ∷ []) (3 ∷ 1 ∷ 2 ∷ []) (2 ∷ 1 ∷ 2 ∷ []) (4 ∷ 1 ∷ 2 ∷ [])
  pub left_over_then_b : Lists (A' ∷ a ∷ B ∷ A ∷ []) (2 ∷ 1 ∷ 2 ∷ 2 ∷ []) (3 ∷ 1 ∷ 2 ∷ 2 ∷ []) (2 ∷ 1 ∷ 2 ∷ 2 ∷ []) (4 ∷ 1 ∷ 2 ∷ 2 ∷ [])
  pub b_pair : Lists (A' ∷ b ∷ b ∷ A ∷ []) (2 ∷ 1 ∷ 1 ∷ 3 ∷ []) (3 ∷ 1 ∷ 1 ∷ 2 ∷ []) (2 ∷ 1 ∷ 1 ∷ 4 ∷ []) (4 ∷ 1 ∷ 1 ∷ 2 ∷ [])
  pub b_left_over : Lists (A' ∷ b ∷ A ∷ []) (2 ∷ 1 ∷ 3 ∷ []) (3 ∷ 1 ∷ 2 ∷ []) (2 ∷ 1 ∷ 4 ∷ []) (4 ∷ 1 ∷ 2 ∷ [])
  pub led_by_p : Lists (A' ∷ a ∷ b ∷ A ∷ []) (2 ∷ 1 ∷ 2 ∷ 2 ∷ []) (3 ∷ 1 ∷ 1 ∷ 2 ∷ []) (2 ∷ 1 ∷ 1 ∷ 2 ∷ []) (4 ∷ 1 ∷ 1 ∷ 2 ∷ [])
  pub led_by_b : Lists (A' ∷ b ∷ a ∷ A ∷ []) (2 ∷ 1 ∷ 1 ∷ 3 ∷ []) (3 ∷ 1 ∷ 1 ∷ 2 ∷ []) (2 ∷ 1 ∷ 1 ∷ 4 ∷ []) (4 ∷ 1 ∷ 1 ∷ 2 ∷ [])
  pub pair_first : Lists (a ∷ a ∷ A ∷ []) (1 ∷ 1 ∷ 2 ∷ []) (1 ∷ 1 ∷ 2 ∷ []) (1 ∷ 1 ∷ 2 ∷ []) (1 ∷ 1 ∷ 2 ∷ [])
  -- a pair, then a field left over
  pub three_fields : Lists (A' ∷ a ∷ a ∷ a ∷ A ∷ []) (2 ∷ 1 ∷ 2 ∷ 1 ∷ 2 ∷ []) (3 ∷ 1 ∷ 1 ∷ 1 ∷ 2 ∷ []) (2 ∷ 1 ∷ 1 ∷ 1 ∷ 2 ∷ []) (4 ∷ 1 ∷ 1 ∷ 1 ∷ 2 ∷ [])
  pub top : Lists (A'' ∷ A ∷ []) (2 ∷ 3 ∷ []) (3 ∷ 2 ∷ []) (2 ∷ 6 ∷ []) (6 ∷ 2 ∷ [])
  pub top_alone : Lists (A^ ∷ A ∷ []) (2 ∷ 2 ∷ []) (2 ∷ 2 ∷ []) (2 ∷ 2 ∷ []) (2 ∷ 2 ∷ [])
  pub top_of_b : Lists (A'' ∷ B'' ∷ A ∷ []) (2 ∷ 3 ∷ 3 ∷ []) (3 ∷ 3 ∷ 2 ∷ []) (2 ∷ 6 ∷ 6 ∷ []) (6 ∷ 6 ∷ 2 ∷ [])
  pub film_group : Lists (A' ∷ A' ∷ B' ∷ B ∷ A ∷ B' ∷ A ∷ [])
      (2 ∷ 3 ∷ 3 ∷ 2 ∷ 3 ∷ 3 ∷ 2 ∷ []) (3 ∷ 3 ∷ 3 ∷ 2 ∷ 2 ∷ 3 ∷ 2 ∷ []) (2 ∷ 4 ∷ 4 ∷ 2 ∷ 4 ∷ 4 ∷ 2 ∷ []) (4 ∷ 4 ∷ 4 ∷ 2 ∷ 2 ∷ 4 ∷ 2 ∷ [])
