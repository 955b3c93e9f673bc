-- A walk goes from picture to picture.
-- Assumes nothing.
use mathlib.Core.Path.{◌≡◌, refl, sym, ap, ◌∙◌}
use Prim.Native.Nat.{ℕ, zero, suc, ◌+◌, ◌-◌, ◌≤◌}
use mathlib.Core.List.{List, [], ◌∷◌}
use mathlib.Core.Bool.{Bool, true, false}
use native.Mathlib.Omega.{arith}
use lib.ListN.{length}
use lib.Seq.{drop-length}
use lib.Dec.{eqb}
use borrow.Author.Tests.{not-true, not-false, eqb-true}
use Rattle.bits.specs.Bits.{pick}
use Rattle.bits.specs.StartCodes.{sequence_end_code}
use Rattle.bits.proofs.Flags.{clash}
use Rattle.scan.specs.declared.StartCode.{StartCode}
use Rattle.std.specs.Prelude.{Option, Some, None}
use Rattle.scan.specs.declared.PictureSpan.{PictureSpan}
use Rattle.scan.specs.Codes.{codes_from, codes, codes_at, found, next_code}
use Rattle.scan.specs.Pictures.{Pic, skip, is_slice, not_slice, not_picture, not_sequence, after_slices, end_at, pictures_f, pictures_of, pictures, go_on, next_in, next_picture}
use Rattle.scan.specs.Order as walk
use Rattle.scan.specs.Order.{WalkGives, WalkGivesPictures, InOrder, PicturesInOrder}
use Rattle.scan.proofs.Walk.{Sought, sought, unsought, next-again}

-- ---- the definition's equations, without the count

skip_shorter : (p : ℕ → Bool) (cs : List StartCode) → length (skip p cs) ≤ length cs
unfolding skip pick
skip_shorter p [] = omega arith
skip_shorter p (c ∷ cs) = go (p c.code) (skip_shorter p cs)
  where
    go : (t : Bool) → length (skip p cs) ≤ length cs → length (pick t (skip p cs) (c ∷ cs)) ≤ suc (length cs)
    go true h = omega arith
    go false h = omega arith

after_shorter : (cs : List StartCode) → length (after_slices cs) ≤ length cs
unfolding after_slices
after_shorter cs = omega (arith, skip_shorter is_slice (skip not_slice cs), skip_shorter not_slice cs)

enough : (e n m : ℕ) (cs : List StartCode) → length cs ≤ n → length cs ≤ m → pictures_f e n cs ≡ pictures_f e m cs
unfolding pictures_f
enough e zero zero cs h k = refl
enough e zero (suc m) [] h k = refl
enough e zero (suc m) (c ∷ cs) h k = absurd (omega arith)
enough e (suc n) zero [] h k = refl
enough e (suc n) zero (c ∷ cs) h k = absurd (omega arith)
enough e (suc n) (suc m) [] h k = refl
enough e (suc n) (suc m) (c ∷ cs) h k =
    let a : length (after_slices cs) ≤ length cs = after_shorter cs in
    rw (enough e n m cs (omega arith) (omega arith), enough e n m (after_slices cs) (omega arith) (omega arith))

pub pictures_other : (e : ℕ) (c : StartCode) (cs : List StartCode) → not_picture c.code ≡ true → pictures_of e (c ∷ cs) ≡ pictures_of e cs
unfolding pictures_of pictures_f pick not_picture
pictures_other e c cs h = rw (not-true (eqb c.code 0) h)

pub pictures-picture : (e : ℕ) (c : StartCode) (cs : List StartCode) → not_picture c.code ≡ false
    → pictures_of e (c ∷ cs) ≡ record { start = c.offset; end = end_at e (after_slices cs) } ∷ pictures_of e (after_slices cs)
unfolding pictures_of pictures_f pick not_picture
pictures-picture e c cs h =
    let a : length (after_slices cs) ≤ length cs = after_shorter cs in
    rw (not-false (eqb c.code 0) h, enough e (length cs) (length (after_slices cs)) (after_slices cs) a (omega arith))

pictures-none : (e : ℕ) → pictures_of e [] ≡ []
unfolding pictures_of pictures_f
pictures-none e = refl

pictures-skip : (e : ℕ) (cs : List StartCode) → pictures_of e cs ≡ pictures_of e (skip not_picture cs)
unfolding skip pick
pictures-skip e [] = refl
pictures-skip e (c ∷ cs) = go (pictures-skip e cs) (not_picture c.code) refl
  where
    go : pictures_of e cs ≡ pictures_of e (skip not_picture cs) → (t : Bool) → not_picture c.code ≡ t
        → pictures_of e (c ∷ cs) ≡ pictures_of e (pick t (skip not_picture cs) (c ∷ cs))
    go ih true q = pictures_other e c cs q ∙ ih
    go ih false q = refl

-- ---- after the slices

pub no_slices-end : (s : List ℕ) (k : ℕ) → found (skip not_slice (codes_at s k)) ≡ None → None ≡ found (after_slices (codes_at s k))
unfolding after_slices skip found
no_slices-end s k e = rw (unsought (skip not_slice (codes_at s k)) e)

pub after-some : (s : List ℕ) (k : ℕ) (c : StartCode) → found (skip not_slice (codes_at s k)) ≡ Some c
    → skip is_slice (codes_at s (c.offset + 4)) ≡ after_slices (codes_at s k)
unfolding after_slices skip pick not_slice
after-some s k c e =
    let m : Sought not_slice s k c = sought not_slice s k c e in
    rw (m.list, not-false (is_slice c.code) m.stops)

-- c is the code after the slices that come next from k on
pub record SlicesPassed (s : List ℕ) (k : ℕ) (c : StartCode) : Type 0 where
  pub from : k ≤ c.offset
  pub room : c.offset + 4 ≤ length s
  pub list : after_slices (codes_at s k) ≡ c ∷ codes_at s (c.offset + 4)
  pub again : codes_at s c.offset ≡ c ∷ codes_at s (c.offset + 4)

pub slices-passed : (s : List ℕ) (k : ℕ) (c : StartCode) → found (after_slices (codes_at s k)) ≡ Some c → SlicesPassed s k c
slices-passed s k c h = go (found (skip not_slice (codes_at s k))) refl
  where
    go : (f : Option StartCode) → found (skip not_slice (codes_at s k)) ≡ f → SlicesPassed s k c
    go None e = let z : None ≡ Some c = no_slices-end s k e ∙ h in absurd (clash cc)
    go (Some d) e =
        let m : Sought not_slice s k d = sought not_slice s k d e in
        let n : Sought is_slice s (d.offset + 4) c = sought is_slice s (d.offset + 4) c (ap found (after-some s k d e) ∙ h) in
        record {
          from = omega (arith, m.from, n.from);
          room = n.room;
          list = sym (after-some s k d e) ∙ n.list;
          again = n.again;
        }

-- ---- one step of the walk, by what the searches find

abbrev pub span : ℕ → ℕ → ℕ → PictureSpan
span a b n = record { at = a; end = b; next = n }

pub next-none : (s : List ℕ) (i : ℕ) → found (skip not_picture (codes_at s i)) ≡ None → None ≡ next_picture s i
unfolding next_picture next_in
next-none s i e = rw (unsought (skip not_picture (codes_at s i)) e)

-- c is the code of a picture
module _ (s : List ℕ) (i : ℕ) (c : StartCode) (f : found (skip not_picture (codes_at s i)) ≡ Some c) where
  next-some : Some (span c.offset (end_at (length s) (after_slices (codes_at s (c.offset + 4)))) (go_on (length s) (after_slices (codes_at s (c.offset + 4))))) ≡ next_picture s i
  unfolding next_picture next_in
  next-some = rw (sought not_picture s i c f).list

  pub next_last : found (after_slices (codes_at s (c.offset + 4))) ≡ None → Some (span c.offset (length s) (length s)) ≡ next_picture s i
  unfolding end_at go_on
  next_last e = rw (unsought (after_slices (codes_at s (c.offset + 4))) e) at next-some

  module _ (d : StartCode) (h : found (after_slices (codes_at s (c.offset + 4))) ≡ Some d) where
    pub end_code_lem : next_code s d.offset ≡ Some d
    end_code_lem = next-again s d (slices-passed s (c.offset + 4) d h).again

    pub next-ended : (e : ℕ) → e ≡ pick (eqb d.code sequence_end_code) (d.offset + 4) d.offset → Some (span c.offset e d.offset) ≡ next_picture s i
    unfolding end_at go_on
    next-ended e q = rw q (rw (slices-passed s (c.offset + 4) d h).list at next-some)

-- ---- what a step of the walk says

-- a picture's code is found at a, and what follows gives its end and where the walk goes on
record Taken (s : List ℕ) (i a b n : ℕ) : Type 0 where
  code : ℕ
  hit : Sought not_picture s i (record { offset = a; code = code })
  end_is : end_at (length s) (after_slices (codes_at s (a + 4))) ≡ b
  next_is : go_on (length s) (after_slices (codes_at s (a + 4))) ≡ n

taken : (s : List ℕ) (i a b n : ℕ) → next_picture s i ≡ Some (span a b n) → Taken s i a b n
taken s i a b n h = go (found (skip not_picture (codes_at s i))) refl
  where
    go : (f : Option StartCode) → found (skip not_picture (codes_at s i)) ≡ f → Taken s i a b n
    go None e = let z : None ≡ Some (span a b n) = next-none s i e ∙ h in absurd (clash cc)
    go (Some c) e =
        let x = next-some s i c e ∙ h in
        let y : span c.offset (end_at (length s) (after_slices (codes_at s (c.offset + 4)))) (go_on (length s) (after_slices (codes_at s (c.offset + 4)))) ≡ span a b n
        = cc in
        let ea : c.offset ≡ a = ap (λ (p : PictureSpan). p.at) y in
        rw (← ea)
        (record { code = c.code; hit = sought not_picture s i c e; end_is = ap (λ (p : PictureSpan). p.end) y; next_is = ap (λ (p : PictureSpan). p.next) y })

pub next_low : (s : List ℕ) (i a b n : ℕ) → next_picture s i ≡ Some (span a b n) → i ≤ a
next_low s i a b n h = (taken s i a b n h).hit.from

-- what follows a picture's code, from k on: the picture ends at b, the walk goes on at n, and the next picture begins at b or later
record SlicesEnd (s : List ℕ) (k b n : ℕ) : Type 0 where
  same : after_slices (codes_at s k) ≡ codes_at s n
  low : k ≤ n
  on : n ≤ b
  high : b ≤ length s
  clear : (a₂ b₂ n₂ : ℕ) → next_picture s n ≡ Some (span a₂ b₂ n₂) → b ≤ a₂

at-end : (s : List ℕ) → codes_at s (length s) ≡ []
unfolding codes_at codes_from
at-end s = rw drop-length

-- a sequence end code is no picture's
end-passed : (s : List ℕ) (c : StartCode) → codes_at s c.offset ≡ c ∷ codes_at s (c.offset + 4) → eqb c.code sequence_end_code ≡ true
    → next_picture s c.offset ≡ next_picture s (c.offset + 4)
unfolding next_picture skip pick not_picture
end-passed s c e q = rw (e, eqb-true c.code sequence_end_code q)

slices-end : (s : List ℕ) (k : ℕ) → k ≤ length s
    → SlicesEnd s k (end_at (length s) (after_slices (codes_at s k))) (go_on (length s) (after_slices (codes_at s k)))
unfolding end_at go_on pick
slices-end s k h = go (found (after_slices (codes_at s k))) refl
  where
    go : (f : Option StartCode) → found (after_slices (codes_at s k)) ≡ f
        → SlicesEnd s k (end_at (length s) (after_slices (codes_at s k))) (go_on (length s) (after_slices (codes_at s k)))
    go None e =
        let u : after_slices (codes_at s k) ≡ [] = unsought (after_slices (codes_at s k)) e in
        rw u (record { same = u ∙ sym (at-end s); low = h; on = omega arith; high = omega arith; clear = next_low s (length s) })
    go (Some c) e = let m : SlicesPassed s k c = slices-passed s k c e in rw m.list (turn m (eqb c.code sequence_end_code) refl)
      where
        turn : SlicesPassed s k c → (t : Bool) → eqb c.code sequence_end_code ≡ t → SlicesEnd s k (pick t (c.offset + 4) c.offset) c.offset
        turn m true q = record {
          same = m.list ∙ sym m.again;
          low = m.from;
          on = omega arith;
          high = m.room;
          clear = λ a b n y. next_low s (c.offset + 4) a b n (sym (end-passed s c m.again q) ∙ y);
        }
        turn m false q =
            record { same = m.list ∙ sym m.again; low = m.from; on = omega arith; high = omega (arith, m.room); clear = next_low s c.offset }

-- the pictures that a walk from offset `i` finds
unfoldable pub pictures_at : List ℕ → ℕ → List Pic
pictures_at s i = pictures_of (length s) (codes_at s i)

-- a walk from i finds a picture from a to b, and goes on at n
pub record PictureStep (s : List ℕ) (i a b n : ℕ) : Type 0 where
  pub from : i ≤ a
  pub low : a + 4 ≤ n
  pub on : n ≤ b
  pub high : b ≤ length s
  -- the next picture begins where this one ends, or later
  pub clear : (a₂ b₂ n₂ : ℕ) → next_picture s n ≡ Some (span a₂ b₂ n₂) → b ≤ a₂
  pub list : pictures_at s i ≡ record { start = a; end = b } ∷ pictures_at s n

pub picture-step : (s : List ℕ) (i a b n : ℕ) → next_picture s i ≡ Some (span a b n) → PictureStep s i a b n
unfolding pictures_at
picture-step s i a b n h =
    let t : Taken s i a b n = taken s i a b n h in
    let r : SlicesEnd s (a + 4) b n = rw (t.end_is, t.next_is) at (slices-end s (a + 4) t.hit.room) in
    record {
      from = t.hit.from;
      low = r.low;
      on = r.on;
      high = r.high;
      clear = r.clear;
      list =
          pictures-skip (length s) (codes_at s i)
          ∙ ap (pictures_of (length s)) t.hit.list
          ∙ pictures-picture (length s) (record { offset = a; code = t.code }) (codes_at s (a + 4)) t.hit.stops
          ∙ rw (t.end_is, r.same);
    }

-- ---- the pictures are what the walk finds

pub pictures-done : (s : List ℕ) (i : ℕ) → next_picture s i ≡ None → pictures_at s i ≡ []
unfolding pictures_at
pictures-done s i h = go (found (skip not_picture (codes_at s i))) refl
  where
    go : (f : Option StartCode) → found (skip not_picture (codes_at s i)) ≡ f → pictures_of (length s) (codes_at s i) ≡ []
    go None e = pictures-skip (length s) (codes_at s i) ∙ rw (unsought (skip not_picture (codes_at s i)) e) (pictures-none (length s))
    go (Some c) e = let x = next-some s i c e ∙ h in cc

pub pictures_walk : (s : List ℕ) → pictures_at s 0 ≡ pictures s
unfolding pictures_at pictures codes codes_at
pictures_walk s = refl

walk_from : (s : List ℕ) (i : ℕ) (qs : List Pic) → pictures_at s i ≡ qs → WalkGives s i qs
walk_from s i [] l = go (next_picture s i) refl
  where
    go : (o : Option PictureSpan) → next_picture s i ≡ o → WalkGives s i []
    go None h = walk.done h
    go (Some p) h = let z = sym (picture-step s i p.at p.end p.next h).list ∙ l in absurd (clash cc)
walk_from s i (q ∷ qs) l = go (λ k x. walk_from s k qs x) (next_picture s i) refl
  where
    go : ((k : ℕ) → pictures_at s k ≡ qs → WalkGives s k qs) → (o : Option PictureSpan) → next_picture s i ≡ o → WalkGives s i (q ∷ qs)
    go ih None h = let z = sym (pictures-done s i h) ∙ l in absurd (clash cc)
    go ih (Some p) h =
        let x = sym (picture-step s i p.at p.end p.next h).list ∙ l in
        let y : ◌≡◌ {A = Pic} (record { start = p.at; end = p.end }) q = cc in
        let z : pictures_at s p.next ≡ qs = cc in
        rw (← y) (walk.step h (ih p.next z))

pub walk_gives : WalkGivesPictures
walk_gives s = walk_from s 0 (pictures s) (pictures_walk s)

-- from place i on, after what ends at e
ordered : {s : List ℕ} {i : ℕ} {qs : List Pic} (e : ℕ) → ((a b k : ℕ) → next_picture s i ≡ Some (span a b k) → e ≤ a) → WalkGives s i qs → InOrder (length s) e qs
ordered e clear (walk.done h) = walk.none
ordered {s} {i} e clear (walk.step {start = a} {end = b} {next = k} h t) =
    let w = picture-step s i a b k h in
    walk.more {q = record { start = a; end = b }} (clear a b k h) (omega (arith, w.low, w.on)) w.high (ordered b w.clear t)

pub in_order : PicturesInOrder
in_order s = ordered 0 (λ a b k h. omega arith) (walk_gives s)

-- no more of them than bytes
few_between : {high low : ℕ} {qs : List Pic} → InOrder high low qs → length qs ≤ high - low
few_between walk.none = omega arith
few_between (walk.more l r b o) = omega (arith, few_between o)

pub pictures-few : (s : List ℕ) → length (pictures s) ≤ length s
pictures-few s = omega (arith, few_between (in_order s))

-- where a search from the first byte finds a sequence header there are four bytes
pub first_inside : (s : List ℕ) (c : StartCode) → found (skip not_sequence (codes s)) ≡ Some c → c.offset + 4 ≤ length s
unfolding codes codes_at
first_inside s c e = (sought not_sequence s 0 c e).room
