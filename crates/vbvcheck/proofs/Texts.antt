-- Text put after text.
-- Assumes nothing.
use mathlib.Core.Path.{◌≡◌, sym, ◌∙◌}
use Prim.Native.Nat.{ℕ, suc, ◌+◌, ◌/◌, ◌%◌, ◌^◌, ◌≤◌, ◌<◌}
use mathlib.Core.List.{List, [], ◌∷◌, ◌++◌, append_assoc, append-nil}
use native.Mathlib.Omega.{arith}
use native.Mathlib.Numerals.{add-one}
use native.Mathlib.Nat.{add-suc}
use lib.ListN.{length, get_or, set, take, drop, drop_of_length-le}
use lib.Seq.{take-suc, take-suc-set, drop-cons}
use borrow.Author.Tests.{lt-ltb, le-ltb}
use Rattle.bits.specs.Bits.{pick}
use Rattle.std.specs.Fmt.{decimal as std_decimal}
use Rattle.std.proofs.lemmas.Fmt.{decimal_from_appends, length-decimal-le}
use Rattle.vbvcheck.specs.Text.{decimal, ending, line}

-- one byte more of a text
pub put_byte : (out text p : List ℕ) (at k : ℕ) → at + k < length out → k < length text → take (at + k) out ≡ p ++ take k text
    → take (at + (k + 1)) (set out (at + k) (get_or text k 0)) ≡ p ++ take (k + 1) text
put_byte out text p at k h l e =
    rw (add-one k, add-suc at k, take-suc-set out (at + k) (get_or text k 0) h, take-suc text k 0 l, e)
    (append_assoc p (take k text) (get_or text k 0 ∷ []))

-- a byte after a text
pub put_end : (out p q : List ℕ) (at b : ℕ) → at < length out → take at out ≡ p ++ q → take (at + 1) (set out at b) ≡ p ++ (q ++ (b ∷ []))
put_end out p q at b h e = rw (add-one at, take-suc-set out at b h, e) (append_assoc p q (b ∷ []))

-- three texts, one after another
pub three_texts : (x y z : List ℕ) {a b c : List ℕ} → c ≡ x → b ≡ c ++ y → a ≡ b ++ z → a ≡ x ++ (y ++ z)
three_texts x y z p q r = r ∙ rw (q, p) (append_assoc x y z)

-- ---- a number's digits

-- 20 digits hold 64 bits
pub length-decimal_20 : (n : ℕ) → n < 2 ^ 64 → length (std_decimal n) ≤ 20
length-decimal_20 n h = length-decimal-le 20 n (omega arith) (omega arith) h

one_digit : (k n : ℕ) → n < 10 → decimal (suc k) n ≡ (48 + n) ∷ []
unfolding decimal pick
one_digit k n h = rw (lt-ltb n 10 h)

last_digit : (k n : ℕ) → 10 ≤ n → decimal (suc k) n ≡ decimal k (n / 10) ++ ((48 + n % 10) ∷ [])
unfolding decimal pick
last_digit k n h = rw (le-ltb n 10 h)

pub decimal-is_std : (n : ℕ) → n < 2 ^ 64 → std_decimal n ≡ decimal 20 n
decimal-is_std n h = sym (decimal_from_appends decimal record { one = one_digit; more = last_digit } 20 n h (length-decimal_20 n h))

-- ---- a line

-- a number of a line, and what comes after it
pub line_step : (ns p : List ℕ) (k : ℕ) {q : List ℕ} → k < length ns → q ≡ p ++ (decimal 20 (get_or ns k 0) ++ (ending (drop (k + 1) ns) ∷ []))
    → q ++ line (drop (k + 1) ns) ≡ p ++ line (drop k ns)
unfolding line
line_step ns p k h e =
    rw (e, drop-cons ns k 0 h, add-one k, append_assoc, append_assoc)

pub ending_space : (ns : List ℕ) (k : ℕ) → k < length ns → ending (drop k ns) ≡ 32
ending_space ns k h = rw (drop-cons ns k 0 h)

pub ending-line : (ns : List ℕ) (k : ℕ) → length ns ≤ k → ending (drop k ns) ≡ 10
ending-line ns k h = rw (drop_of_length-le ns {i = k} h)

pub line-end : (ns p : List ℕ) (k : ℕ) → length ns ≤ k → p ++ line (drop k ns) ≡ p
unfolding line
line-end ns p k h = rw (drop_of_length-le ns {i = k} h, append-nil)
