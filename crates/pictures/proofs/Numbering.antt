-- The numbers of the front's refusals, down its chain of tests.
-- Assumes nothing.
use mathlib.Core.Path.{◌≡◌, refl}
use mathlib.Core.List.{List, [], ◌∷◌}
use Prim.Native.Nat.{ℕ, ◌≤◌}
use native.Mathlib.Omega.{arith}
use lib.ListN.{drop}
use Rattle.bits.specs.Refusals.{Answer, and_then}
use Rattle.bits.specs.Numbers.{Numbered, a_value, by_number, by_picture, by_all}
use Rattle.bits.proofs.Flags.{pick_elim}
use Rattle.bits.proofs.Numbering.{and_then_lem, wider}
use Rattle.headers.specs.Sequence.{sequence}
use Rattle.headers.specs.declared.sequence_extension.Mpeg2Sequence.{Mpeg2Sequence}
use Rattle.headers.proofs.Numbering.{header_numbers}
use Rattle.headers.proofs.Sequence.{sequence-frames}
use Rattle.picture_header.proofs.Numbering.{header_told_numbered, picture_told_numbered}
use Rattle.vbv.specs.declared.VbvParams.{VbvParams}
use Rattle.vbv.proofs.Numbering.{rate_only_6}
use Rattle.scan.specs.Pictures.{Pic, pictures}
use Rattle.std.specs.Prelude.{Option, Some, None}
use Rattle.scan.specs.declared.PictureSpan.{PictureSpan}
use Rattle.scan.specs.declared.StartCode.{StartCode}
use Rattle.pictures.specs.Sequence.{rated, declared_by, declared_at, declared}
use Rattle.pictures.specs.Seen.{shown, seen_at, seen_each, seen_pictures, sight_at, next_seen}
use Rattle.pictures.specs.Front.{with_first, opening, front}
use Rattle.pictures.specs.Numbers.{FrontNumbers}
use Rattle.pictures.specs.declared.SeenPicture.{SeenPicture}
use Rattle.pictures.specs.declared.VbvStandard.{VbvStandard}
use Rattle.pictures.specs.declared.VbvStandard.TheVariants.{Mpeg1, Mpeg2}

abbrev OfOpening : {X : Type 0} → Answer X → Type 0
OfOpening a = Numbered (14 ∷ 3 ∷ 1 ∷ 2 ∷ 6 ∷ []) [] [] a

abbrev OfStep : {X : Type 0} → Answer X → Type 0
OfStep a = Numbered (14 ∷ 1 ∷ 2 ∷ []) [] [] a

abbrev OfFront : {X : Type 0} → Answer X → Type 0
OfFront a = Numbered (14 ∷ 3 ∷ 1 ∷ 2 ∷ 6 ∷ 4 ∷ []) [] [] a

-- ---- what is declared

-- n and d as they are read are never too wide
rated_numbered : (rate buffer code n d : ℕ) → n ≤ 3 → d ≤ 31 → OfOpening (rated rate buffer code n d)
unfolding rated
rated_numbered rate buffer code n d l h = and_then_lem _ (wider refl refl refl (rate_only_6 code n d l h)) (λ f. a_value)

mpeg2_numbered : (s : List ℕ) (a : Answer Mpeg2Sequence) → sequence s ≡ a → OfOpening a
    → OfOpening (and_then a (λ q. rated q.bit_rate q.vbv_buffer_size q.header.frame_rate_code q.extension.frame_rate_extension_n q.extension.frame_rate_extension_d))
mpeg2_numbered s a e (a_value {x = q}) = let b = sequence-frames s q e in rated_numbered _ _ _ _ _ b.0 b.1
mpeg2_numbered s a e (by_number h) = by_number h
mpeg2_numbered s a e (by_picture h) = by_picture h
mpeg2_numbered s a e (by_all h) = by_all h

declared_numbered : (standard : VbvStandard) (s : List ℕ) (f : Option StartCode) → OfOpening (declared_at standard s f)
unfolding declared_at declared_by
declared_numbered Mpeg1 s (Some c) = and_then_lem _ (wider refl refl refl (header_numbers.sequence_header_lem (drop c.offset s))) (λ h. rated_numbered _ _ _ _ _ (omega arith) (omega arith))
declared_numbered Mpeg2 s (Some c) = mpeg2_numbered (drop c.offset s) _ refl (wider refl refl refl (header_numbers.both (drop c.offset s)))
declared_numbered standard s None = by_number refl

opening_numbered : (standard : VbvStandard) (s : List ℕ) → OfOpening (opening standard s)
unfolding opening declared
opening_numbered standard s = pick_elim OfOpening _ (λ e. by_number refl) λ e. declared_numbered standard s _

-- ---- the pictures

shown_numbered : (standard : VbvStandard) (s : List ℕ) → OfStep (shown standard s)
unfolding shown
shown_numbered Mpeg1 s = wider refl refl refl (header_told_numbered s)
shown_numbered Mpeg2 s = wider refl refl refl (picture_told_numbered s)

at_numbered : (standard : VbvStandard) (s : List ℕ) (q : Pic) → OfStep (seen_at standard s q)
unfolding seen_at
at_numbered standard s q = and_then_lem _ (shown_numbered standard (drop q.start s)) (λ t. a_value)

sight_numbered : (standard : VbvStandard) (s : List ℕ) (o : Option PictureSpan) → OfStep (sight_at standard s o)
unfolding sight_at
sight_numbered standard s None = a_value
sight_numbered standard s (Some p) = and_then_lem _ (at_numbered standard s _) (λ x. a_value)

step_numbered : (standard : VbvStandard) (s : List ℕ) (from : ℕ) → OfStep (next_seen standard s from)
unfolding next_seen
step_numbered standard s from = pick_elim OfStep _ (λ e. by_number refl) λ e. sight_numbered standard s _

each_numbered : (standard : VbvStandard) (s : List ℕ) (qs : List Pic) → OfFront (seen_each standard s qs)
unfolding seen_each
each_numbered standard s [] = a_value
each_numbered standard s (q ∷ qs) =
    and_then_lem _ (wider refl refl refl (at_numbered standard s q)) λ x.
    and_then_lem _ (each_numbered standard s qs) λ xs.
    a_value

first_numbered : (p : VbvParams) (xs : List SeenPicture) → OfFront (with_first p xs)
unfolding with_first
first_numbered p [] = by_number refl
first_numbered p (x ∷ xs) = a_value

front_numbered : (standard : VbvStandard) (s : List ℕ) → OfFront (front standard s)
unfolding front seen_pictures
front_numbered standard s =
    and_then_lem _ (wider refl refl refl (opening_numbered standard s)) λ p.
    and_then_lem _ (each_numbered standard s (pictures s)) λ xs.
    first_numbered p xs

pub front_numbers : FrontNumbers
front_numbers = record { opening_has = opening_numbered; step_has = step_numbered; front_has = front_numbered }
