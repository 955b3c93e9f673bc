-- Demand 3 (paper 00) as one statement, of a film writer with the film check and of a plain one with the plain check (paper 02, request 05), of a variable writer with the variable check (request 06): of every creation, and of every list of offers and withdrawals on the writer that an accepted one returned. The order's sentences stand above the
-- fields, in its order. Of the code it holds by the promises of `CbrWriter::create`, `offer` and `withdraw`, which fix the answer, the writer that is left and the output part.
-- Read Answers, the record Offer, Calls, Sent, Due, then this. Assumes nothing.
use Rattle.std.specs.Prelude.{ℕ, suc, ◌≤◌, ◌≡◌, true, List, [], ◌∷◌, eqb}
use Rattle.bits.specs.Bits.{pick}
use Rattle.bits.specs.Refusals.{Answer, value, refused, number}
use Rattle.headers.specs.RoundTrips.{Bytes}
use Rattle.vbv.specs.Answers.{frame_rate}
use Rattle.vbv.specs.declared.VbvParams.{VbvParams}
use Rattle.rate_control.specs.Answers.{Given, placed, again}
use Rattle.rate_control.specs.Create.{writer_params, create}
use Rattle.rate_control.specs.Calls.{Call, offering, withdrawing, Step, offered, withdrawn, steps_of, final}
use Rattle.rate_control.specs.Sent.{sent, stuffing_of, EachRemoval, InBuffer, WellPlaced, LeastStuffing, PassesCheck}
use Rattle.rate_control.specs.Due.{Known, at_first, asked_for, known_after_step, known_after, holding, Answered, targets_of, CreationDue}
use Rattle.rate_control.specs.declared.CbrConfig.{CbrConfig}
use Rattle.rate_control.specs.declared.CbrWriter.{CbrWriter}

-- ---- retries

-- after an answer: a picture's retries count from creation, or from the latest placing, withdrawal or 21
abbrev pub retries_by : ℕ → Answer Given → ℕ
retries_by n (value (placed q delay bytes stuffing)) = 0
retries_by n (value (again q)) = suc n
retries_by n (refused k picture coded expected) = pick (eqb k 21) 0 n

abbrev pub retries_after : ℕ → Step → ℕ
retries_after n (offered o a out) = retries_by n a
retries_after n (withdrawn k) = 0

-- 21 only at quantiser 31
abbrev pub AtCoarsest : Known → Step → Type 0
AtCoarsest x (offered o a out) = number a ≡ 21 → asked_for x o ≡ 31
AtCoarsest x (withdrawn k) = Unit {0}

-- never more than eleven retries of a picture
pub data Patient (p : VbvParams) (t : List ℕ) : Known → ℕ → List Step → Type 0 where
  calls_end : {x : Known} {n : ℕ} → n ≤ 11 → Patient p t x n []
  step_then : {x : Known} {n : ℕ} {s : Step} {l : List Step} → n ≤ 11 → AtCoarsest x s → Patient p t (known_after_step p t x s) (retries_after n s) l → Patient p t x n (s ∷ l)

-- ---- what a variable writer never says

abbrev pub Other : ℕ → Type 0
Other n = (n ≡ 7 → ⊥) × ((n ≡ 9 → ⊥) × (n ≡ 22 → ⊥))

abbrev pub Unsaid : List Step → Type 0
Unsaid [] = Unit {0}
Unsaid (offered o a out ∷ l) = Other (number a) × Unsaid l
Unsaid (withdrawn n ∷ l) = Other n × Unsaid l

-- ---- the demand

-- of the steps of a list of calls on a writer of the parameters p and the targets t, created with c, and the writer that is left
pub record Demand (c : CbrConfig) (p : VbvParams) (t : List ℕ) (steps : List Step) (left : CbrWriter) : Type 0 where
  -- 'each answer .. is the one that document 01 defines: an offer is placed, sent back coarser or refused'; and what each output part then holds
  pub answers : Answered p t (at_first c) steps
  -- 'from creation and the calls alone' (paper 01): what the writer holds is what they and their answers told
  pub state : left ≡ holding p t (known_after p t (at_first c) steps)
  -- 'The bytes handed out by the list neither overflow nor underflow the receiver's buffer.' (The delays and intervals that this counts by are those in the bytes: `pictures`, `check`.)
  pub receiver : EachRemoval c.mode p (λ i. InBuffer p) (sent 0 steps)
  -- 'Demand 3 holds of a film writer with the film check, of a plain one with the plain check' (paper 02, request 05). 'Demand 3 holds of it with the variable check' (request 06).
  -- 'Laid end to end, once a picture is placed, they pass the MPEG-2 check, given a record place per picture, with one record for each placed picture, in order. In each record the
  -- coded delay equals the expected one, and the data bits are 8 × the bytes placed for that picture'
  pub check : PassesCheck c.mode p (sent 0 steps)
  -- 'headers, layer, stuffing and end code', with the delay that was told
  pub pictures : EachRemoval c.mode p (λ i. WellPlaced c.mode.variable p) (sent 0 steps)
  -- 'Stuffing after each picture but the last is the least number of zero bytes that keeps the next removal from overflow.'
  pub stuffing : EachRemoval c.mode p (LeastStuffing c.mode.variable p) (sent 0 steps)
  -- 'The stuffing total equals the zero bytes appended' (paper 01)
  pub total : left.stuffing_bytes ≡ stuffing_of (sent 0 steps)
  -- 'Too large is said only at quantiser 31, after at most eleven retries of that picture.'
  pub retries : Patient p t (at_first c) 0 steps
  -- a variable writer: 'never 7, 9 or 22' (paper 02, request 06)
  pub never : c.mode.variable ≡ true → Unsaid steps

-- of the calls on the writer w, created with c, its frame rate being f
abbrev pub DemandOf : CbrConfig → ℕ × ℕ → CbrWriter → List Call → Type 0
DemandOf c f w calls = Demand c (writer_params c f) (targets_of c f) (steps_of w calls) (final w calls)

-- every offered layer is of bytes: in the code it is, by its type. (Only a layer's bits are put together anew, by the patched delay.)
abbrev pub AllBytes : List Call → Type 0
AllBytes [] = Unit {0}
AllBytes (offering o ∷ calls) = Bytes o.layer × AllBytes calls
AllBytes (withdrawing ∷ calls) = AllBytes calls

-- what is owed
abbrev pub OwedOfCalls : Type 0
OwedOfCalls =
    (c : CbrConfig) (f : ℕ × ℕ) (w : CbrWriter) (calls : List Call) → frame_rate c.frame_rate_code c.frame_rate_extension_n c.frame_rate_extension_d ≡ value f → create c ≡ value w → AllBytes calls
    → DemandOf c f w calls

pub record Demand3 : Type 0 where
  -- 'each answer, creation's .. too, is the one that document 01 defines'
  pub creation : (c : CbrConfig) → CreationDue c (create c)
  pub no_other : (c : CbrConfig) (a : Answer CbrWriter) → CreationDue c a → a ≡ create c
  pub calls : OwedOfCalls
