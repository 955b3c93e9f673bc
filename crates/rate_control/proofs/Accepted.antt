-- The check accepts what a list of calls hands out, with a record for each picture.
-- Assumes nothing.
use mathlib.Core.Path.{◌≡◌, refl, sym, ap, ◌∙◌}
use mathlib.Core.Bool.{Bool, true, false}
use mathlib.Core.List.{List, [], ◌∷◌}
use Prim.Native.Nat.{ℕ, suc, ◌+◌, ◌-◌, ◌*◌, ◌≤◌}
use native.Mathlib.Omega.{arith}
use lib.ListN.{length}
use Rattle.vbv.specs.Annex.{first_arrived, arrived}
use Rattle.vbv.specs.Model.{farthest, params_fit_at, periods}
use Rattle.vbv.specs.declared.RemovalInterval.{RemovalInterval}
use Rattle.vbv.specs.declared.VbvParams.{VbvParams}
use Rattle.vbv.proofs.Laws.{units_over, units_beyond}
use Rattle.vbv.proofs.Scale.{same_value, same_told}
use Rattle.verify.specs.Run.{run}
use Rattle.bits.specs.Refusals.{value}
use Rattle.bits.proofs.Following.{same_value as was}
use Rattle.pictures.specs.Sequence.{declared}
use Rattle.pictures.specs.Seen.{seen_pictures}
use Rattle.pictures.specs.Cadence.{cadence_by, cadence_of}
use Rattle.pictures.specs.declared.VbvStandard.TheVariants.{Mpeg1, Mpeg2}
use Rattle.cadence.specs.Cadence.{after}
use Rattle.cadence.specs.declared.VbvCadence.{VbvCadence}
use Rattle.verify.specs.declared.VbvMode.{VbvMode}
use Rattle.verify.specs.Accepted.{DelaysFit}
use Rattle.verify.specs.Coded.{timed}
use Rattle.verify.proofs.Accepting.{Passed, exact_record, run_none, run-passed, accepted}
use Rattle.verify.proofs.Rates.{same-run}
use Rattle.layers.proofs.Laws.{DeclaresSame, first-declares}
use Rattle.layers.proofs.Stream.{Part, PartsFit, part, stream, seen, parts_none, stream_seen, stream_declared, stream_cadence}
use Rattle.rate_control.specs.Sent.{Sent, sent_position, sent_end, end_to_end, sent_facts, lasts_for, no_removal, removal_then, sent_record, sent_records, PassesCheck}
use Rattle.rate_control.proofs.Removing.{Done, RemovalsDone, EachDone}
use Rattle.rate_control.proofs.Sending.{seen_by, seen_sent, coded_sent, coded_by, first_headers, Sending}

-- ---- the run over the pictures

done-passed : {v : Bool} {p : VbvParams} {i : RemovalInterval} {d previous : ℕ} {x : Sent} → Done v p i d previous x → Passed v p previous d (coded_sent i x)
unfolding coded_sent
done-passed {p = p} r = record {
  in_time = r.in_time;
  delay_exact = r.as_placed.delay_exact;
  delay_told = r.as_placed.delay_told;
  no_overflow = units_over p _ _ r.in_buffer.no_overflow;
  no_underflow = units_beyond p _ _ r.in_buffer.no_underflow;
}

done_record : {v : Bool} {p : VbvParams} {i : RemovalInterval} {d previous : ℕ} {x : Sent} → Done v p i d previous x → exact_record p previous d (coded_sent i x) ≡ sent_record p i d previous x
unfolding coded_sent sent_record
done_record {previous = previous} {x = x} r =
    let e : 8 * (x.before + length x.bytes) - previous ≡ 8 * length x.bytes = omega (arith, r.begins) in
    rw e

course_ran : {v : Bool} {p : VbvParams} {k : VbvCadence} {d previous : ℕ} {xs : List Sent} (n : ℕ) → RemovalsDone v p k d previous xs
    → run v p n previous d (coded_by k xs) ≡ value (sent_records v p k d previous xs)
unfolding coded_sent coded_by sent_records
course_ran {v} {p} {k} {d} {previous} n no_removal = run_none v p n previous d
course_ran n (removal_then {k = k} {x = x} {xs = xs} r c) = rw (← done_record r) (run-passed n (coded_by (after k (sent_facts x)) xs) (done-passed r) (course_ran (suc n) c))

-- ---- the verdict

not-both : Mpeg1 ≡ Mpeg2 → ⊥
not-both e = let y : ◌≡◌ {A = ℕ} 0 1 = cc in omega arith

seen_length : (xs : List Sent) → length (seen_by xs) ≡ length xs
unfolding seen_by
seen_length [] = refl
seen_length (x ∷ xs) = ap suc (seen_length xs)

-- at a constant rate the first delay is no 0xFFFF, at a variable one each is
delays_fit : (v : Bool) {p : VbvParams} {k : VbvCadence} {d previous : ℕ} {xs : List Sent} → RemovalsDone v p k d previous xs → DelaysFit v (seen_by xs)
unfolding seen_by seen_sent
delays_fit v no_removal = tt
delays_fit false (removal_then r c) = λ e. omega (arith, e, r.as_placed.delay_told refl)
delays_fit true (removal_then r c) = (r.as_placed.delay_exact, delays_fit true c)

-- what the first headers declare, the same as p but for numerator and denominator: the check runs alike with either. And they open the cadence of the check
passes_by : (m : VbvMode) (p : VbvParams) (x : Sent) (xs : List Sent) → m.standard ≡ Mpeg2 → params_fit_at m.variable p ≡ true → 8 * length (end_to_end (x ∷ xs)) ≤ farthest
    → EachDone m.variable m.film p (x ∷ xs)
    → (s : DeclaresSame p x.offer.headers) → declared Mpeg2 (end_to_end (x ∷ xs)) ≡ value s.params
    → cadence_of m.film (end_to_end (x ∷ xs)) ≡ cadence_by m.film x.offer.headers
    → seen_pictures Mpeg2 (end_to_end (x ∷ xs)) ≡ value (seen_by (x ∷ xs)) → ((k : VbvCadence) → timed k (seen_by (x ∷ xs)) ≡ coded_by k (x ∷ xs))
    → PassesCheck m p (x ∷ xs)
unfolding seen_by seen_sent sent_records
passes_by m p x xs q f l c s d j h t places n =
    let first = first_arrived m.variable p (sent_position x) x.delay in
    let b = cadence_by m.film x.offer.headers in
    let k = same_told p s.params s.same in
    let v = same_value p s.params s.same in
    let ran = sym (same-run k m.variable 0 0 _ _ (k.first_arrived_lem m.variable (sent_position x) x.delay) (coded_by b (x ∷ xs))) ∙ course_ran 0 c in
    let a = accepted
    {m = m}
    {s = end_to_end (x ∷ xs)}
    {x = seen_sent x}
    {xs = seen_by xs}
    {r = sent_record p (lasts_for b x) first 0 x}
    {rs = sent_records m.variable p (after b (sent_facts x)) (arrived m.variable p (sent_end x) first (periods (lasts_for b x))) (sent_end x) xs}
    places
    (record { mode_exists = λ e. absurd (not-both (sym e ∙ q)); is_read = rw q (record { short = l; declares = d; pictures_are = h }) })
    (delays_fit m.variable c) (sym (k.fits_at m.variable) ∙ f)
    (rw (seen_length xs) n) (rw (j, t) ran) in
    record {
      report_is = rw (a, v.rate, v.size);
      records_are = rw a;
      by_headers = λ b e. let z : value b ≡ _ = sym e ∙ a in rw (was z) s.by_headers;
      same_value = λ b e. let z : value b ≡ _ = sym e ∙ a in rw (was z) s.same;
    }

-- they are the first part's, and the stream declares what they do and opens the cadence that they do
record Begun (film : Bool) (p : VbvParams) (x : Sent) (xs : List Sent) : Type 0 where
  same : DeclaresSame p x.offer.headers
  declares : declared Mpeg2 (end_to_end (x ∷ xs)) ≡ value same.params
  opens : cadence_of film (end_to_end (x ∷ xs)) ≡ cadence_by film x.offer.headers

sending_begun : (film : Bool) {p : VbvParams} {x : Sent} {xs : List Sent} → Sending p false 0 (x ∷ xs) → Begun film p x xs
unfolding seen_by
sending_begun film {p} {x} {xs} a = go a.parts a.fit a.seen_is a.headers_are a.laid_is
  where
    go : (ys : List Part) → PartsFit p false ys → seen 0 ys (length a.follows) ≡ seen_by (x ∷ xs) → first_headers ys ≡ x.offer.headers
        → end_to_end (x ∷ xs) ≡ stream ys a.follows → Begun film p x xs
    go [] f e h l = let z = sym (parts_none 0 (length a.follows)) ∙ e in absurd (let y : ◌≡◌ {A = ℕ} 0 1 = cc in omega arith)
    go (y ∷ ys) (part f fs) e h l =
        let s = first-declares p y.headers f.headers_fit_lem in
        record {
          same = record { params = s.params; by_headers = rw (← h) s.by_headers; same = s.same };
          declares = ap (declared Mpeg2) l ∙ stream_declared f ys a.follows;
          opens = ap (cadence_of film) l ∙ stream_cadence film f ys a.follows ∙ ap (cadence_by film) h;
        }

pub passes : (m : VbvMode) (p : VbvParams) (xs : List Sent) → m.standard ≡ Mpeg2 → params_fit_at m.variable p ≡ true → 8 * length (end_to_end xs) ≤ farthest
    → EachDone m.variable m.film p xs
    → Sending p false 0 xs → PassesCheck m p xs
passes m p [] q f l c a = tt
passes m p (x ∷ xs) q f l c a =
    let b = sending_begun m.film a in
    passes_by m p x xs q f l c b.same b.declares b.opens
    (ap (seen_pictures Mpeg2) a.laid_is ∙ stream_seen a.fit a.ends ∙ ap value a.seen_is) a.timed_is
