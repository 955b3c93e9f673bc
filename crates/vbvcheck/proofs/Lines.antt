-- Records read from their bytes.
-- Assumes nothing.
use mathlib.Core.Path.{◌≡◌, refl}
use Prim.Native.Nat.{ℕ, suc, ◌+◌, ◌*◌, ◌-◌, ◌≤◌, ◌<◌}
use mathlib.Core.List.{List, [], ◌∷◌, ◌++◌, append_assoc, append-nil}
use native.Mathlib.Omega.{arith}
use lib.ListN.{length, take, drop}
use lib.Seq.{drop-drop, drop_at}
use Rattle.words.specs.Words.{words_bytes, word_at}
use Rattle.words.proofs.Bytes.{AllWords, none as no_word, some as word, length_words, word_put}
use Rattle.verify.specs.Layout.{record_size, records_bytes}
use Rattle.verify.specs.declared.VbvPictureRecord.{VbvPictureRecord}
use Rattle.verify.proofs.Storing.{records-more}
use Rattle.bits.proofs.Reading.{rest_is}
use Rattle.verify.specs.Sizes.{AllSmall, none, some}
use Rattle.vbvcheck.specs.Text.{line, record_lines}
use Rattle.vbvcheck.specs.Steps.{line_of, lines_of}

-- the words of the part from a place on
pub line_read : (s : List ℕ) (i : ℕ) {a b d e f : ℕ} → a ≡ word_at (take (length s - i) (drop i s)) 0 → b ≡ word_at (take (length s - i) (drop i s)) 1
    → d ≡ word_at (take (length s - i) (drop i s)) 2 → e ≡ word_at (take (length s - i) (drop i s)) 3
    → f ≡ word_at (take (length s - i) (drop i s)) 4 → line (a ∷ b ∷ d ∷ e ∷ f ∷ []) ≡ line_of (drop i s)
unfolding line_of
line_read s i a b d e f = rw (a, b, d, e, f, rest_is s i)

pub lines_step : (n k : ℕ) (s p : List ℕ) {q : List ℕ} → k < n → q ≡ p ++ line_of (drop (record_size * k) s)
    → q ++ lines_of (n - (k + 1)) (drop (record_size * (k + 1)) s) ≡ p ++ lines_of (n - k) (drop (record_size * k) s)
unfolding lines_of
lines_step n k s p h e =
    let a : n - k ≡ suc (n - (k + 1)) = omega arith in
    let b : record_size * k + record_size ≡ record_size * (k + 1) = omega arith in
    rw (e, a, drop-drop record_size (record_size * k) s, b, append_assoc)

pub lines_end : (n k : ℕ) (s p : List ℕ) → n ≤ k → p ++ lines_of (n - k) (drop (record_size * k) s) ≡ p
unfolding lines_of
lines_end n k s p h = let a : n - k ≡ 0 = omega arith in rw (a, append-nil)

pub lines_are : (rs : List VbvPictureRecord) (rest : List ℕ) → AllSmall rs → lines_of (length rs) (records_bytes rs ++ rest) ≡ record_lines rs
unfolding lines_of record_lines line_of
lines_are [] rest none = refl
lines_are (r ∷ rs) rest (some q t) =
    let ws = r.vbv_delay ∷ r.expected_delay ∷ r.data_bits ∷ r.occupancy_before_bits ∷ r.periods ∷ [] in
    let more = records_bytes rs ++ rest in
    let small : AllWords ws
    = word {v = r.vbv_delay} (omega (arith, q.coded_small))
    (word {v = r.expected_delay} (omega (arith, q.expected_small))
    (word {v = r.data_bits} (omega (arith, q.data_small))
    (word {v = r.occupancy_before_bits} (omega (arith, q.occupancy_small))
    (word {v = r.periods} (omega (arith, q.periods_small)) no_word)))) in
    rw (
      records-more r rs,
      append_assoc (words_bytes ws) (records_bytes rs) rest,
      word_put small more 0 (omega arith),
      word_put small more 1 (omega arith),
      word_put small more 2 (omega arith),
      word_put small more 3 (omega arith),
      word_put small more 4 (omega arith),
      drop_at (words_bytes ws) more record_size (length_words ws),
      lines_are rs rest t,
    )
