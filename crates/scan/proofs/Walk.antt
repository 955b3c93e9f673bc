-- A scan of a stream goes from code to code, and a search passes over some of them.
-- Assumes nothing.
use mathlib.Core.Path.{◌≡◌, refl, sym, ap, ◌∙◌}
use Prim.Native.Nat.{ℕ, zero, suc, ◌+◌, ◌-◌, ◌≤◌}
use mathlib.Core.List.{List, [], ◌∷◌}
use mathlib.Core.Bool.{Bool, true, false}
use native.Mathlib.Omega.{arith}
use native.Mathlib.Nat.{add-suc, add-zero, suc-add}
use lib.ListN.{length, get_or, drop, length-drop}
use lib.Seq.{drop-drop}
use Rattle.bits.specs.Bits.{pick}
use Rattle.bits.proofs.Flags.{clash}
use Rattle.std.specs.Prelude.{Some, None}
use Rattle.scan.specs.declared.StartCode.{StartCode}
use Rattle.scan.specs.Codes.{starts, codes_from, codes_at, found, next_code}
use Rattle.scan.specs.Pictures.{skip}
use Rattle.scan.proofs.Prefix.{starts_long}

-- ---- over a list

-- to pass over k bytes is to begin k bytes later
passing : (k o : ℕ) (l : List ℕ) → codes_from o k l ≡ codes_from (o + k) 0 (drop k l)
unfolding codes_from
passing zero o l = rw add-zero
passing (suc k) o [] = refl
passing (suc k) o (b ∷ l) = rw (add-suc, ← suc-add o k) (passing k (suc o) l)

code_here : (b : ℕ) (l : List ℕ) (o : ℕ) → starts (b ∷ l) ≡ true
    → codes_from o 0 (b ∷ l) ≡ record { offset = o; code = get_or (b ∷ l) 3 0 } ∷ codes_from (o + 4) 0 (drop 4 (b ∷ l))
unfolding codes_from pick
code_here b l o q =
    let e : o + 4 ≡ suc o + 3 = omega arith in
    rw (q, passing 3 (suc o) l, e)

pub unsought : (cs : List StartCode) → found cs ≡ None → cs ≡ []
unfolding found
unsought [] e = refl
unsought (c ∷ cs) e = cc

-- a search in l, which stands at o, passes over k bytes and then `p`, and stops at c, j bytes on
record Hit (p : ℕ → Bool) (l : List ℕ) (o k : ℕ) (c : StartCode) : Type 0 where
  j : ℕ
  place : c.offset ≡ o + j
  room : j + 4 ≤ length l
  list : skip p (codes_from o k l) ≡ c ∷ codes_from (c.offset + 4) 0 (drop (j + 4) l)
  again : codes_from c.offset 0 (drop j l) ≡ c ∷ codes_from (c.offset + 4) 0 (drop (j + 4) l)
  stops : p c.code ≡ false

hit_later : {p : ℕ → Bool} {l : List ℕ} {o k : ℕ} {c : StartCode} → Hit p l (suc o) k c → (b m : ℕ)
    → skip p (codes_from o m (b ∷ l)) ≡ skip p (codes_from (suc o) k l) → Hit p (b ∷ l) o m c
hit_later h b m e = record {
  j = suc h.j;
  place = omega (arith, h.place);
  room = omega (arith, h.room);
  list = rw suc-add (e ∙ h.list);
  again = rw suc-add h.again;
  stops = h.stops;
}

hit : (p : ℕ → Bool) (l : List ℕ) (o k : ℕ) (c : StartCode) → found (skip p (codes_from o k l)) ≡ Some c → Hit p l o k c
unfolding codes_from skip found pick
hit p [] o k c e = absurd (clash cc)
hit p (b ∷ l) o (suc k) c e = hit_later (hit p l (suc o) k c e) b (suc k) refl
hit p (b ∷ l) o zero c e = go (λ k. hit p l (suc o) k c) (starts (b ∷ l)) refl e
  where
    go : ((k : ℕ) → found (skip p (codes_from (suc o) k l)) ≡ Some c → Hit p l (suc o) k c) → (t : Bool) → starts (b ∷ l) ≡ t
        → found (skip p (pick t (record { offset = o; code = get_or (b ∷ l) 3 0 } ∷ codes_from (suc o) 3 l) (codes_from (suc o) 0 l))) ≡ Some c
        → Hit p (b ∷ l) o 0 c
    go ih false s e = hit_later (ih 0 e) b 0 (rw s)
    go ih true s e = turn (p (get_or (b ∷ l) 3 0)) refl e
      where
        turn : (t : Bool) → p (get_or (b ∷ l) 3 0) ≡ t
            → found (pick t (skip p (codes_from (suc o) 3 l)) (record { offset = o; code = get_or (b ∷ l) 3 0 } ∷ codes_from (suc o) 3 l)) ≡ Some c
            → Hit p (b ∷ l) o 0 c
        turn true r e = hit_later (ih 3 e) b 0 (rw (s, r))
        turn false r e =
            let q : ◌≡◌ {A = StartCode} (record { offset = o; code = get_or (b ∷ l) 3 0 }) c = cc in
            let h = code_here b l o s in
            rw (← q)
            (record { j = 0; place = omega arith; room = omega (arith, starts_long (b ∷ l) s); list = ap (skip p) h ∙ rw r; again = h; stops = r })

-- ---- in a stream

-- a search from i that passes over `p` stops at the code c
pub record Sought (p : ℕ → Bool) (s : List ℕ) (i : ℕ) (c : StartCode) : Type 0 where
  pub from : i ≤ c.offset
  pub room : c.offset + 4 ≤ length s
  pub list : skip p (codes_at s i) ≡ c ∷ codes_at s (c.offset + 4)
  pub again : codes_at s c.offset ≡ c ∷ codes_at s (c.offset + 4)
  pub stops : p c.code ≡ false

pub sought : (p : ℕ → Bool) (s : List ℕ) (i : ℕ) (c : StartCode) → found (skip p (codes_at s i)) ≡ Some c → Sought p s i c
unfolding codes_at
sought p s i c e =
    let h : Hit p (drop i s) i 0 c = hit p (drop i s) i 0 c e in
    let r : h.j + 4 ≤ length s - i = rw length-drop at h.room in
    let e4 : i + (h.j + 4) ≡ c.offset + 4 = omega (arith, h.place) in
    let d4 : drop (h.j + 4) (drop i s) ≡ drop (c.offset + 4) s = drop-drop (h.j + 4) i s ∙ ap (λ n. drop n s) e4 in
    let d0 : drop h.j (drop i s) ≡ drop c.offset s = drop-drop h.j i s ∙ ap (λ n. drop n s) (sym h.place) in
    record {
      from = omega (arith, h.place);
      room = omega (arith, h.place);
      list = rw d4 at h.list;
      again = rw (d0, d4) at h.again;
      stops = h.stops;
    }

-- the next code is what a search finds that passes over nothing
never : ℕ → Bool
never c = false

skip-never : (cs : List StartCode) → skip never cs ≡ cs
unfolding skip pick never
skip-never [] = refl
skip-never (c ∷ cs) = refl

next_code_is : (s : List ℕ) (i : ℕ) → next_code s i ≡ found (codes_at s i)
unfolding next_code
next_code_is s i = refl

pub record CodeSeen (s : List ℕ) (i : ℕ) (c : StartCode) : Type 0 where
  pub from : i ≤ c.offset
  pub room : c.offset + 4 ≤ length s
  pub list : codes_at s i ≡ c ∷ codes_at s (c.offset + 4)
  pub again : codes_at s c.offset ≡ c ∷ codes_at s (c.offset + 4)

pub code_seen : (s : List ℕ) (i : ℕ) (c : StartCode) → next_code s i ≡ Some c → CodeSeen s i c
code_seen s i c e =
    let m : Sought never s i c = sought never s i c (ap found (skip-never (codes_at s i)) ∙ sym (next_code_is s i) ∙ e) in
    record { from = m.from; room = m.room; list = sym (skip-never (codes_at s i)) ∙ m.list; again = m.again }

pub next-again : (s : List ℕ) (c : StartCode) → codes_at s c.offset ≡ c ∷ codes_at s (c.offset + 4) → next_code s c.offset ≡ Some c
unfolding found
next-again s c e = next_code_is s c.offset ∙ rw e

pub unseen : (s : List ℕ) (i : ℕ) → next_code s i ≡ None → codes_at s i ≡ []
unseen s i e = unsought (codes_at s i) (sym (next_code_is s i) ∙ e)

-- ---- one turn of a search

pub pass_on : (p : ℕ → Bool) (s : List ℕ) (i : ℕ) (c : StartCode) → next_code s i ≡ Some c → p c.code ≡ true
    → found (skip p (codes_at s (c.offset + 4))) ≡ found (skip p (codes_at s i))
unfolding skip pick
pass_on p s i c e t = rw ((code_seen s i c e).list, t)

pub stop_here : (p : ℕ → Bool) (s : List ℕ) (i : ℕ) (c : StartCode) → next_code s i ≡ Some c → p c.code ≡ false → Some c ≡ found (skip p (codes_at s i))
unfolding skip pick found
stop_here p s i c e t = rw ((code_seen s i c e).list, t)

pub none_here : (p : ℕ → Bool) (s : List ℕ) (i : ℕ) → next_code s i ≡ None → None ≡ found (skip p (codes_at s i))
unfolding skip found
none_here p s i e = rw (unseen s i e)
