-- The pictures of pieces laid end to end.
-- Assumes nothing.
use mathlib.Core.Path.{◌≡◌, refl, sym, ap, ◌∙◌}
use Prim.Native.Nat.{ℕ, zero, suc, ◌+◌}
use mathlib.Core.List.{List, [], ◌∷◌, ◌++◌, map, append_assoc}
use mathlib.Core.Bool.{Bool, true, false}
use native.Mathlib.Omega.{arith}
use native.Mathlib.Nat.{add_assoc, add-zero, zero-add}
use lib.ListN.{length, length-append, length-map}
use lib.Dec.{eqb}
use Rattle.bits.specs.Bits.{pick}
use Rattle.bits.specs.StartCodes.{picture_start_code, sequence_end_code}
use Rattle.bits.proofs.Flags.{both_true, pick_in}
use Rattle.scan.specs.declared.StartCode.{StartCode}
use Rattle.scan.specs.Codes.{codes, codes_from, every, sequence_end}
use Rattle.scan.specs.Pictures.{Pic, skip, is_slice, not_slice, not_picture, after_slices, end_at, pictures_f, pictures_of, pictures}
use Rattle.scan.proofs.Codes.{fresh, fresh_code, moved, codes-append}
use Rattle.scan.proofs.PictureCodes.{codes-opened}
use Rattle.scan.proofs.Sorts.{skip_stops}
use Rattle.scan.proofs.Laying.{OnePicture, Opened, Piece, Pieces, none, more, laid_pieces, laid_pics}
use Rattle.scan.proofs.Pictures.{pictures_other, pictures-picture}

-- ---- lists of codes

skip-every : (p : ℕ → Bool) (cs ds : List StartCode) → every p cs ≡ true → skip p (cs ++ ds) ≡ skip p ds
unfolding every skip pick
skip-every p [] ds h = refl
skip-every p (c ∷ cs) ds h =
    let b = both_true (p c.code) (every p cs) h in
    rw b.0 (skip-every p cs ds b.1)

headers-none : (e : ℕ) (cs ds : List StartCode) → every not_picture cs ≡ true → pictures_of e (cs ++ ds) ≡ pictures_of e ds
unfolding every
headers-none e [] ds h = refl
headers-none e (c ∷ cs) ds h =
    let b = both_true (not_picture c.code) (every not_picture cs) h in
    pictures_other e c (cs ++ ds) b.0 ∙ headers-none e cs ds b.1

picture_0 : not_picture 0 ≡ false
unfolding not_picture
picture_0 = refl

slice_stops : (c : StartCode) (cs : List StartCode) → is_slice c.code ≡ true → skip not_slice (c ∷ cs) ≡ c ∷ cs
unfolding not_slice
slice_stops c cs h = skip_stops not_slice c cs (rw h)

slice_passes : (c : StartCode) (cs : List StartCode) → is_slice c.code ≡ true → skip is_slice (c ∷ cs) ≡ skip is_slice cs
unfolding skip pick
slice_passes c cs h = rw h

after_all : (cs : List StartCode) (at : ℕ) (o : OnePicture cs at) (ds : List StartCode) → skip is_slice ds ≡ ds → after_slices (o.extensions ++ (o.slice ∷ o.slices) ++ ds) ≡ ds
unfolding after_slices
after_all cs at o ds h =
    ap (λ l. skip is_slice (skip not_slice l)) (append_assoc o.extensions (o.slice ∷ o.slices) ds)
    ∙ ap (skip is_slice) (skip-every not_slice o.extensions (o.slice ∷ (o.slices ++ ds)) o.no_slice ∙ slice_stops o.slice (o.slices ++ ds) o.a_slice)
    ∙ slice_passes o.slice (o.slices ++ ds) o.a_slice
    ∙ skip-every is_slice o.slices ds o.all_slices
    ∙ h

-- the codes of one picture before codes that begin with no slice
one_then : (e : ℕ) (cs : List StartCode) (at : ℕ) → OnePicture cs at → (ds : List StartCode) → skip is_slice ds ≡ ds
    → pictures_of e (cs ++ ds) ≡ record { start = at; end = end_at e ds } ∷ pictures_of e ds
one_then e cs at o ds h =
    ap (λ l. pictures_of e (l ++ ds)) o.shape
    ∙ ap (pictures_of e) (append_assoc o.headers (record { offset = at; code = 0 } ∷ (o.extensions ++ (o.slice ∷ o.slices))) ds)
    ∙ headers-none e o.headers _ o.no_picture
    ∙ pictures-picture e _ _ picture_0
    ∙ ap (λ l. record { start = at; end = end_at e l } ∷ pictures_of e l) (after_all cs at o ds h)

-- ---- moved on

-- a picture moved on by d bytes
unfoldable moved_pic : ℕ → Pic → Pic
moved_pic d p = record { start = d + p.start; end = d + p.end }

skip_moved : (p : ℕ → Bool) (d : ℕ) (cs : List StartCode) → skip p (map (moved d) cs) ≡ map (moved d) (skip p cs)
unfolding skip pick moved
skip_moved p d [] = refl
skip_moved p d (c ∷ cs) = go (p c.code) (skip_moved p d cs)
  where
    go : (t : Bool) → skip p (map (moved d) cs) ≡ map (moved d) (skip p cs)
        → pick t (skip p (map (moved d) cs)) (moved d c ∷ map (moved d) cs) ≡ map (moved d) (pick t (skip p cs) (c ∷ cs))
    go true h = h
    go false h = refl

after_moved : (d : ℕ) (cs : List StartCode) → after_slices (map (moved d) cs) ≡ map (moved d) (after_slices cs)
unfolding after_slices
after_moved d cs = rw (skip_moved not_slice d cs, skip_moved is_slice d (skip not_slice cs))

end_at_moved : (d e : ℕ) (cs : List StartCode) → end_at (d + e) (map (moved d) cs) ≡ d + end_at e cs
unfolding end_at pick moved
end_at_moved d e [] = refl
end_at_moved d e (c ∷ cs) = go (eqb c.code sequence_end_code)
  where
    go : (t : Bool) → pick t (d + c.offset + 4) (d + c.offset) ≡ d + pick t (c.offset + 4) c.offset
    go true = omega arith
    go false = refl

pictures_f_moved : (d e n : ℕ) (cs : List StartCode) → pictures_f (d + e) n (map (moved d) cs) ≡ map (moved_pic d) (pictures_f e n cs)
unfolding pictures_f pick moved moved_pic
pictures_f_moved d e zero cs = refl
pictures_f_moved d e (suc n) [] = refl
pictures_f_moved d e (suc n) (c ∷ cs) =
    rw (after_moved d cs, end_at_moved d e (after_slices cs), pictures_f_moved d e n (after_slices cs), pictures_f_moved d e n cs)
    (sym (pick_in (map (moved_pic d)) (eqb c.code picture_start_code) _ _))

pictures_of_moved : (d e : ℕ) (cs : List StartCode) → pictures_of (d + e) (map (moved d) cs) ≡ map (moved_pic d) (pictures_of e cs)
unfolding pictures_of
pictures_of_moved d e cs = rw length-map (pictures_f_moved d e (length cs) cs)

-- ---- a piece before a stream

module _ (x : List ℕ) (at : ℕ) (p : Piece x at) (y : List ℕ) (f : fresh y ≡ true) (s : skip is_slice (codes y) ≡ codes y) where
  piece_then : pictures (x ++ y) ≡ record { start = at; end = length x + end_at (length y) (codes y) } ∷ map (moved_pic (length x)) (pictures y)
  unfolding pictures
  piece_then =
      rw (codes-append x y p.opened.closed f, length-append x y)
      (one_then (length x + length y) (codes x) at p.one (map (moved (length x)) (codes y)) (skip_moved is_slice (length x) (codes y) ∙ ap (map (moved (length x))) s)
      ∙ rw (end_at_moved (length x) (length y) (codes y), pictures_of_moved (length x) (length y) (codes y)))

-- what may follow a piece: where the piece's picture then ends, counted from the piece's end
pub record Follows (y : List ℕ) (n : ℕ) : Type 0 where
  pub fresh_y : fresh y ≡ true
  pub no_slice_first : skip is_slice (codes y) ≡ codes y
  pub ends : end_at (length y) (codes y) ≡ n

pub record Tail (t : List ℕ) : Type 0 where
  pub follows : Follows t (length t)
  pub none_left : pictures t ≡ []

opens_follows : (first : ℕ) (rest : List ℕ) → is_slice first ≡ false → eqb first sequence_end_code ≡ false → Follows (0 ∷ 0 ∷ 1 ∷ first ∷ rest) 0
unfolding pick skip end_at
opens_follows first rest s e =
    record { fresh_y = fresh_code (first ∷ rest); no_slice_first = rw (codes-opened first rest, s); ends = rw (codes-opened first rest, e) }

opened_follows : (x : List ℕ) → Opened x → (y : List ℕ) → Follows (x ++ y) 0
opened_follows x o y = rw o.opens (opens_follows o.first (o.rest ++ y) o.opens_slice o.opens_end)

laid_moved : (d o : ℕ) (ps : Pieces) (t : ℕ) → map (moved_pic d) (laid_pics o ps t) ≡ laid_pics (d + o) ps t
unfolding laid_pics moved_pic
laid_moved d o none t = refl
laid_moved d o (more x at p none) t = simp add_assoc
laid_moved d o (more x at p (more y at₂ q ps)) t = rw (laid_moved d (o + length x) (more y at₂ q ps) t) (simp add_assoc)

-- the pictures of pieces laid end to end are one for each piece, from where the piece says to where the next piece begins
pub laid-pictures : (ps : Pieces) (t : List ℕ) → Tail t → pictures (laid_pieces ps t) ≡ laid_pics 0 ps (length t)
unfolding laid_pieces laid_pics
laid-pictures none t w = w.none_left
laid-pictures (more x at p none) t w =
    piece_then x at p t w.follows.fresh_y w.follows.no_slice_first
    ∙ rw (w.follows.ends, w.none_left) (simp zero-add)
laid-pictures (more x at p (more y at₂ q ps)) t w =
    let g : Follows (y ++ laid_pieces ps t) 0 = opened_follows y q.opened (laid_pieces ps t) in
    piece_then x at p (y ++ laid_pieces ps t) g.fresh_y g.no_slice_first
    ∙ rw (g.ends, laid-pictures (more y at₂ q ps) t w, laid_moved (length x) 0 (more y at₂ q ps) (length t)) (simp (add-zero, zero-add))

pub tail_none : Tail []
unfolding codes codes_from fresh skip end_at pictures pictures_of pictures_f
tail_none = record { follows = record { fresh_y = refl; no_slice_first = refl; ends = refl }; none_left = refl }

pub tail_end : Tail sequence_end
unfolding codes_from pick skip is_slice end_at pictures_of pictures_f pictures
tail_end = record {
  follows = record { fresh_y = fresh_code (sequence_end_code ∷ []); no_slice_first = rw (codes-opened sequence_end_code []); ends = rw (codes-opened sequence_end_code []) };
  none_left = rw (codes-opened sequence_end_code []);
}
