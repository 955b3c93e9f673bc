-- A piece put together: headers before its picture, zeros after it.
-- Assumes nothing.
use mathlib.Core.Path.{◌≡◌, refl, sym, ap, ◌∙◌}
use Prim.Native.Nat.{ℕ, ◌+◌}
use mathlib.Core.List.{List, [], ◌∷◌, ◌++◌, map, map-append, append_assoc, append-nil}
use mathlib.Core.Bool.{Bool, true, false}
use lib.ListN.{length, replicate}
use Rattle.bits.proofs.Flags.{both_true}
use Rattle.scan.specs.declared.StartCode.{StartCode}
use Rattle.scan.specs.Codes.{codes, every, ends_prefix}
use Rattle.scan.specs.Pictures.{is_slice, not_slice, not_picture}
use Rattle.scan.proofs.Codes.{fresh, fresh_code, fresh_zeros, moved, codes-append, codes_from_zeros, ends-append, ends_zeros}
use Rattle.scan.proofs.Laying.{OnePicture, Opened, Piece}

-- ---- codes

every_moved : (p : ℕ → Bool) (d : ℕ) (cs : List StartCode) → every p (map (moved d) cs) ≡ every p cs
unfolding every moved
every_moved p d [] = refl
every_moved p d (c ∷ cs) = rw (every_moved p d cs)

every_append : (p : ℕ → Bool) (cs ds : List StartCode) → every p cs ≡ true → every p ds ≡ true → every p (cs ++ ds) ≡ true
unfolding every
every_append p [] ds h k = k
every_append p (c ∷ cs) ds h k =
    let b = both_true (p c.code) (every p cs) h in
    rw b.0 (every_append p cs ds b.1 k)

one_moved : (d : ℕ) {cs : List StartCode} {at : ℕ} → OnePicture cs at → OnePicture (map (moved d) cs) (d + at)
unfolding moved
one_moved d o = record {
  headers = map (moved d) o.headers;
  extensions = map (moved d) o.extensions;
  slice = moved d o.slice;
  slices = map (moved d) o.slices;
  shape = ap (map (moved d)) o.shape ∙ simp map-append;
  no_picture = every_moved not_picture d o.headers ∙ o.no_picture;
  no_slice = every_moved not_slice d o.extensions ∙ o.no_slice;
  a_slice = o.a_slice;
  all_slices = every_moved is_slice d o.slices ∙ o.all_slices;
}

one-after : (hs : List StartCode) {cs : List StartCode} {at : ℕ} → every not_picture hs ≡ true → OnePicture cs at → OnePicture (hs ++ cs) at
one-after hs h o = record {
  headers = hs ++ o.headers;
  extensions = o.extensions;
  slice = o.slice;
  slices = o.slices;
  shape = ap (λ l. hs ++ l) o.shape ∙ sym (append_assoc hs o.headers _);
  no_picture = every_append not_picture hs o.headers h o.no_picture;
  no_slice = o.no_slice;
  a_slice = o.a_slice;
  all_slices = o.all_slices;
}

-- ---- parts

pub fresh_opened : (x : List ℕ) → Opened x → fresh x ≡ true
fresh_opened x o = rw o.opens (fresh_code (o.first ∷ o.rest))

pub opened-append : (x y : List ℕ) → Opened x → fresh y ≡ true → ends_prefix y ≡ false → Opened (x ++ y)
opened-append x y o f c = record {
  first = o.first;
  rest = o.rest ++ y;
  opens = ap (λ l. l ++ y) o.opens;
  opens_slice = o.opens_slice;
  opens_end = o.opens_end;
  closed = ends-append x y o.closed f c;
}

-- ---- the laws

pub piece_after : (h x : List ℕ) (at : ℕ) → Opened h → every not_picture (codes h) ≡ true → Piece x at → Piece (h ++ x) (length h + at)
piece_after h x at o n p =
    let f : fresh x ≡ true = fresh_opened x p.opened in
    record {
      opened = opened-append h x o f p.opened.closed;
      one = rw (codes-append h x o.closed f) (one-after (codes h) n (one_moved (length h) p.one));
    }

zeros_fresh : (n : ℕ) → fresh (replicate n 0) ≡ true
unfolding fresh
zeros_fresh n = rw append-nil at (fresh_zeros n [] refl)

zeros_none : (n : ℕ) → codes (replicate n 0) ≡ []
unfolding codes
zeros_none n = codes_from_zeros n 0 0

pub piece_zeros : (x : List ℕ) (at n : ℕ) → Piece x at → Piece (x ++ replicate n 0) at
piece_zeros x at n p = record {
  opened = opened-append x (replicate n 0) p.opened (zeros_fresh n) (ends_zeros n);
  one = rw (codes-append x (replicate n 0) p.opened.closed (zeros_fresh n), zeros_none n, append-nil) p.one;
}
