-- The cadence that a sequence header opens: outside film none is read; by headers at a stream's front the stream's.
-- Assumes nothing.
use mathlib.Core.Path.{◌≡◌, refl, ◌∙◌}
use mathlib.Core.Bool.{Bool, true, false}
use Prim.Native.Nat.{ℕ}
use mathlib.Core.List.{List, ◌∷◌, ◌++◌}
use lib.ListN.{drop}
use Rattle.bits.specs.StartCodes.{sequence_header_code}
use Rattle.bits.specs.Refusals.{Answer, value, refused, and_then, or_else}
use Rattle.headers.specs.Sequence.{sequence}
use Rattle.headers.specs.declared.sequence_extension.Mpeg2Sequence.{Mpeg2Sequence}
use Rattle.headers.proofs.Sequence.{sequence-append}
use Rattle.vbv.specs.declared.VbvParams.{VbvParams}
use Rattle.std.specs.Prelude.{Option, Some, None}
use Rattle.scan.specs.Codes.{codes, found}
use Rattle.scan.specs.Pictures.{skip, not_sequence}
use Rattle.scan.specs.declared.StartCode.{StartCode}
use Rattle.cadence.specs.Cadence.{opened, cadence_fits}
use Rattle.cadence.specs.declared.VbvCadence.{VbvCadence}
use Rattle.cadence.proofs.Keeping.{opened-film, opened-plain, opened_is, opened-none, opened_itself, opened_unflagged, opened-fits}
use Rattle.pictures.specs.Cadence.{cadence_by, opened_at, cadence_of}
use Rattle.pictures.specs.Sequence.{declared_by}
use Rattle.pictures.specs.Due.{SequenceOpens}
use Rattle.pictures.specs.declared.VbvStandard.TheVariants.{Mpeg2}
use Rattle.pictures.proofs.Showing.{declared_from, first-sequence}

-- ---- outside film

pub plain_by : (s : List ℕ) → cadence_by false s ≡ opened false false false
unfolding cadence_by
plain_by s = case (sequence s)
  where
    case : (r : Answer Mpeg2Sequence)
        → or_else (opened false false false) (and_then r (λ q. value (opened false q.extension.progressive_sequence q.extension.low_delay))) ≡ opened false false false
    case (value q) = opened-plain _ _
    case (refused n k c e) = refl

pub plain_of : (s : List ℕ) → cadence_of false s ≡ opened false false false
unfolding cadence_of opened_at
plain_of s = case (found (skip not_sequence (codes s)))
  where
    case : (f : Option StartCode) → opened_at false s f ≡ opened false false false
    case (Some c) = plain_by _
    case None = refl

-- ---- at the front of a stream

-- a stream that begins with its sequence header opens the cadence that this one does
pub cadence-first : (film : Bool) (s : List ℕ) (cs : List StartCode) → codes s ≡ record { offset = 0; code = sequence_header_code } ∷ cs → cadence_of film s ≡ cadence_by film s
unfolding cadence_of opened_at
cadence-first film s cs c = rw (first-sequence s cs c)

-- what stands after headers that declare something does not matter
pub cadence-append : (film : Bool) (s t : List ℕ) (p : VbvParams) → declared_by Mpeg2 s ≡ value p → cadence_by film (s ++ t) ≡ cadence_by film s
unfolding cadence_by
cadence-append film s t p e =
    let a = declared_from s p e in
    rw (a.parsed, sequence-append s t a.read a.parsed)

-- film or not is kept, and it fits
pub by_film : (film : Bool) (s : List ℕ) → (cadence_by film s).film ≡ film
unfolding cadence_by
by_film film s = case (sequence s)
  where
    case : (r : Answer Mpeg2Sequence)
        → (or_else (opened film false false) (and_then r (λ q. value (opened film q.extension.progressive_sequence q.extension.low_delay)))).film ≡ film
    case (value q) = opened-film film _ _
    case (refused n k c e) = opened-film film false false

pub by_fits : (film : Bool) (s : List ℕ) → cadence_fits (cadence_by film s) ≡ true
unfolding cadence_by
by_fits film s = case (sequence s)
  where
    case : (r : Answer Mpeg2Sequence)
        → cadence_fits (or_else (opened film false false) (and_then r (λ q. value (opened film q.extension.progressive_sequence q.extension.low_delay)))) ≡ true
    case (value q) = opened-fits film _ _
    case (refused n k c e) = opened-fits film false false

-- of a stream
stream_opens : (film : Bool) (s : List ℕ) (c : StartCode) → found (skip not_sequence (codes s)) ≡ Some c → cadence_of film s ≡ cadence_by film (drop c.offset s)
unfolding cadence_of opened_at
stream_opens film s c e = rw e

pub of-film : (film : Bool) (s : List ℕ) → (cadence_of film s).film ≡ film
unfolding cadence_of opened_at
of-film film s = case (found (skip not_sequence (codes s)))
  where
    case : (f : Option StartCode) → (opened_at film s f).film ≡ film
    case (Some c) = by_film film (drop c.offset s)
    case None = opened-film film false false

-- before its first picture a film stream has what its sequence has, and nothing else
unfoldable read_as : Answer Mpeg2Sequence → VbvCadence
read_as r = or_else (opened true false false) (and_then r (λ q. value (opened true q.extension.progressive_sequence q.extension.low_delay)))

by_first : (s : List ℕ) → cadence_by true s ≡ opened true (cadence_by true s).progressive (cadence_by true s).low_delay
unfolding cadence_by read_as
by_first s = case (sequence s)
  where
    case : (r : Answer Mpeg2Sequence) → read_as r ≡ opened true (read_as r).progressive (read_as r).low_delay
    case (value q) = opened_itself _ _
    case (refused n k c e) = opened_itself false false

pub first-cadence : (s : List ℕ) → cadence_of true s ≡ opened true (cadence_of true s).progressive (cadence_of true s).low_delay
unfolding cadence_of opened_at
first-cadence s = case (found (skip not_sequence (codes s)))
  where
    case : (f : Option StartCode) → opened_at true s f ≡ opened true (opened_at true s f).progressive (opened_at true s f).low_delay
    case (Some c) = by_first (drop c.offset s)
    case None = opened_itself false false

-- and no picture's flag
by_unflagged : (film : Bool) (s : List ℕ) → (cadence_by film s).repeat ≡ false
unfolding cadence_by
by_unflagged film s = case (sequence s)
  where
    case : (r : Answer Mpeg2Sequence)
        → (or_else (opened film false false) (and_then r (λ q. value (opened film q.extension.progressive_sequence q.extension.low_delay)))).repeat ≡ false
    case (value q) = opened_unflagged film _ _
    case (refused n k c e) = opened_unflagged film false false

pub unflagged : (film : Bool) (s : List ℕ) → (cadence_of film s).repeat ≡ false
unfolding cadence_of opened_at
unflagged film s = case (found (skip not_sequence (codes s)))
  where
    case : (f : Option StartCode) → (opened_at film s f).repeat ≡ false
    case (Some c) = by_unflagged film (drop c.offset s)
    case None = opened_unflagged film false false

-- what the fields say
pub sequence_opens : SequenceOpens
unfolding cadence_by
sequence_opens = record {
  in_film = λ s q e. rw e (opened_is _ _);
  outside_film = λ s. plain_by s ∙ opened-none;
  of_stream = stream_opens;
}
