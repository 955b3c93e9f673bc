-- Records stored in their places.
-- Assumes nothing.
use mathlib.Core.Path.{◌≡◌, refl, ap, ◌∙◌}
use Prim.Native.Nat.{ℕ, ◌+◌, ◌-◌, ◌*◌, ◌≤◌, ◌<◌}
use mathlib.Core.List.{List, [], ◌∷◌, ◌++◌, append-nil}
use Rattle.std.specs.Prelude.{Option, Some, None}
use native.Mathlib.Omega.{arith}
use lib.ListN.{length, take, drop, get_or, length-append, length-take}
use Rattle.std.proofs.lemmas.List.{drop_more, drop_all}
use lib.Seq.{sets, length-sets}
use Rattle.bits.specs.Answers.{over}
use Rattle.bits.proofs.Over.{over_is, over_sets, sets_append}
use Rattle.words.specs.Words.{words_bytes, laid}
use Rattle.words.proofs.Bytes.{length_words}
use Rattle.words.proofs.Laying.{laid_part}
use Rattle.verify.specs.Layout.{record_size, record_bytes, records_bytes}
use Rattle.verify.specs.Steps.{next_record}
use Rattle.verify.specs.declared.recorder.VbvRecorder.{VbvRecorder}
use Rattle.verify.proofs.Recording.{Yields, next}
use Rattle.verify.specs.declared.VbvPictureRecord.{VbvPictureRecord}

pub length_record : (r : VbvPictureRecord) → length (record_bytes r) ≡ record_size
unfolding record_bytes
length_record r = length_words _

-- five words laid over the part from a place on
pub record_laid : (out new : List ℕ) (at : ℕ) (r : VbvPictureRecord) → at + record_size ≤ length out
    → new ≡ laid (words_bytes (r.vbv_delay ∷ r.expected_delay ∷ r.data_bits ∷ r.occupancy_before_bits ∷ r.periods ∷ [])) (take (length out - at) (drop at out))
    → take at out ++ (new ++ drop (length out - at) (drop at out)) ≡ sets out at (record_bytes r)
unfolding record_bytes
record_laid out new at r h e = rw e (laid_part (record_bytes r) out at (omega (arith, length_record r)))

pub no_records : records_bytes [] ≡ []
unfolding records_bytes
no_records = refl

pub length-records : (rs : List VbvPictureRecord) → length (records_bytes rs) ≡ record_size * length rs
unfolding records_bytes
length-records [] = refl
length-records (r ∷ rs) = rw (length-append (record_bytes r) (records_bytes rs), length_record r, length-records rs) (omega arith)

pub bytes-more : (r : VbvPictureRecord) (rs : List VbvPictureRecord) → records_bytes (r ∷ rs) ≡ record_bytes r ++ records_bytes rs
unfolding records_bytes
bytes-more r rs = refl

-- what the bytes of records are
pub records-more : (r : VbvPictureRecord) (rs : List VbvPictureRecord)
    → records_bytes (r ∷ rs)
    ≡ words_bytes (r.vbv_delay ∷ r.expected_delay ∷ r.data_bits ∷ r.occupancy_before_bits ∷ r.periods ∷ []) ++ records_bytes rs
unfolding records_bytes record_bytes
records-more r rs = refl

-- ---- one after another

-- of the records rs that the walk gives the first i are stored, each as `one`; what is still to come makes of the places what all of them make of the first ones
pub record Stored (s : List ℕ) {Y : Type 0} (lay : List VbvPictureRecord → List Y) (size : ℕ) (rs : List VbvPictureRecord) (out₀ out : List Y) (w : VbvRecorder) (i : ℕ) : Type 0 where
  pub as_long : length out ≡ length out₀
  pub to_come : Yields s w (drop i rs)
  pub laid_lem : sets out (size * i) (lay (drop i rs)) ≡ sets out₀ 0 (lay rs)

-- none yet
pub stored_none : {s : List ℕ} {Y : Type 0} (lay : List VbvPictureRecord → List Y) (size : ℕ) {rs : List VbvPictureRecord} {out : List Y} {w : VbvRecorder} → Yields s w rs → Stored s lay size rs out out w 0
stored_none lay size y = let z : size * 0 ≡ 0 = omega arith in record { as_long = refl; to_come = y; laid_lem = rw z }

-- a walk gives the records that it gives
first_is : {s : List ℕ} {w after : VbvRecorder} {o : Option VbvPictureRecord} {r : VbvPictureRecord} {rs : List VbvPictureRecord} → Yields s w (r ∷ rs) → (after, o) ≡ next_record s w → (o ≡ Some r) × Yields s after rs
first_is {after = after} {o = o} {r = r} (next {after = n} h t) e =
    let q : ◌≡◌ {A = VbvRecorder × Option VbvPictureRecord} (after, o) (n, Some r) = e ∙ h in
    let a : after ≡ n = ap (λ (z : VbvRecorder × Option VbvPictureRecord). z.0) q in
    (ap (λ (z : VbvRecorder × Option VbvPictureRecord). z.1) q, rw a t)

module _ {Y : Type 0} (one : VbvPictureRecord → List Y) (lay : List VbvPictureRecord → List Y) (size : ℕ) (more : (r : VbvPictureRecord) (rs : List VbvPictureRecord) → lay (r ∷ rs) ≡ one r ++ lay rs)
    (sized : (r : VbvPictureRecord) → length (one r) ≡ size) {s : List ℕ} {rs : List VbvPictureRecord} {out₀ out : List Y} {w after : VbvRecorder} {i : ℕ} {o : Option VbvPictureRecord} (h : Stored s lay size rs out₀ out w i)
    (l : i < length rs) (e : (after, o) ≡ next_record s w) where
  -- one more at its place
  pub stored_more : {r : VbvPictureRecord} → o ≡ Some r → {new : List Y} → new ≡ sets out (size * i) (one r) → Stored s lay size rs out₀ new after (i + 1)
  stored_more {r} f {new} b =
      let d = drop_more rs i r l in
      let q = first_is (rw d at h.to_come) e in
      let g : get_or rs i r ≡ r = cc in
      let k : size * (i + 1) ≡ size * i + length (one r) = omega (arith, sized r) in
      record {
        as_long = rw (b, length-sets out (size * i) (one r)) h.as_long;
        to_come = q.1;
        laid_lem = rw (b, k, ← sets_append (one r) (lay (drop (i + 1) rs)) out (size * i), ← more r (drop (i + 1) rs)) (rw (d, g) at h.laid_lem);
      }

  pub never_none : o ≡ None → ⊥
  never_none f =
      let r : VbvPictureRecord = record { vbv_delay = 0; expected_delay = 0; data_bits = 0; occupancy_before_bits = 0; periods = 0 } in
      let q = first_is (rw (drop_more rs i r l) at h.to_come) e in
      let z : ◌≡◌ {A = ℕ} 0 1 = cc in
      absurd (omega arith)

-- all of them
pub all_stored : {s : List ℕ} {Y : Type 0} {lay : List VbvPictureRecord → List Y} {size : ℕ} {rs : List VbvPictureRecord} {out₀ out : List Y} {w : VbvRecorder} {i : ℕ} → lay [] ≡ [] → length (lay rs) ≤ length out₀ → Stored s lay size rs out₀ out w i
    → length rs ≤ i → out ≡ over (lay rs) out₀
all_stored {lay = lay} {rs = rs} {out₀ = out₀} {i = i} z f h ge = let e = rw (drop_all i rs ge, z) at h.laid_lem in e ∙ over_sets (lay rs) out₀ f

-- a part from the first place on, with what lies past it
pub over-front : {Y : Type 0} (rs out : List Y) (n : ℕ) {front : List Y} → n ≡ length rs → n ≤ length out → front ≡ over rs (take n out) → front ++ drop n out ≡ over rs out
over-front rs out n e l f =
    let z : length (take n out) ≤ length rs = omega (arith, length-take n out, e) in
    rw (f, over_is rs (take n out), drop_all (length rs) (take n out) z, append-nil rs, over_is rs out, e)
