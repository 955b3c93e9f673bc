-- What the cadence keeps is what the pictures before tell: followed picture by picture by the table's rows.
-- Assumes nothing.
use Prim.Native.Nat.{ℕ}
use mathlib.Core.Path.{◌≡◌, refl, sym, subst}
use mathlib.Core.Bool.{Bool, true, false, not, ◌&&◌, and-true, and-false}
use mathlib.Core.List.{List, [], ◌∷◌}
use Rattle.bits.specs.Bits.{pick}
use Rattle.bits.proofs.Flags.{pick-alike}
use Rattle.vbv.specs.Model.{periods}
use Rattle.vbv.specs.declared.RemovalInterval.{RemovalInterval}
use Rattle.picture_header.specs.declared.PictureFacts.{PictureFacts}
use Rattle.cadence.specs.Cadence.{opened, lasting, led_by_anchor, field_interval, frame_interval, interval, after}
use Rattle.cadence.specs.Table.{film, frame_of, field_of}
use Rattle.cadence.specs.History.{odd_fields, anchor_flags, led_pair, before_pair, frame_lasts, lasts_after, cadence_after, ByHistory}
use Rattle.cadence.specs.declared.OpenField.{OpenField}
use Rattle.cadence.specs.declared.OpenField.TheVariants.{Closed, LedByAnchor, LedByOther}
use Rattle.cadence.specs.declared.VbvCadence.{VbvCadence}
use Rattle.cadence.proofs.Table.{leaves_table}

-- an interval of n field periods
abbrev Lasts : RemovalInterval → ℕ → Type 0
Lasts i n = periods i ≡ n

-- the cadence k after the pictures xs; while a field led by I or P waits, it holds the flags of the anchor before that field
data Told (p l : Bool) (xs : List PictureFacts) : VbvCadence → Type 0 where
  closed : (R T : Bool) → odd_fields xs ≡ false → led_pair xs ≡ false → anchor_flags xs ≡ (R, T) → Told p l xs (film p l R T Closed)
  led : (R T : Bool) → odd_fields xs ≡ true → led_pair xs ≡ true → before_pair xs ≡ (R, T) → anchor_flags xs ≡ (false, false) → Told p l xs (film p l R T LedByAnchor)
  other : (R T : Bool) → odd_fields xs ≡ true → led_pair xs ≡ false → anchor_flags xs ≡ (R, T) → Told p l xs (film p l R T LedByOther)

module _ (p l : Bool) (xs : List PictureFacts) where
  moved : {ys : List PictureFacts} {j k : VbvCadence} → k ≡ j → Told p l ys j → Told p l ys k
  moved {ys} e t = subst (Told p l ys) (sym e) t

  after_anchor : (R T : Bool) (o : OpenField) (r t : Bool) → Told p l (frame_of true r t ∷ xs) (after (film p l R T o) (frame_of true r t))
  unfolding odd_fields led_pair anchor_flags pick
  after_anchor R T o r t = moved (leaves_table.anchor_frame p l R T o r t) (closed r t refl refl refl)

  after-b : {k : VbvCadence} → Told p l xs k → (r t : Bool) → Told p l (frame_of false r t ∷ xs) (after k (frame_of false r t))
  unfolding odd_fields led_pair anchor_flags pick
  after-b (closed R T e n f) r t = moved (leaves_table.b_frame p l R T r t) (closed R T refl refl f)
  after-b (led R T e n g f) r t = moved (leaves_table.b_after_field p l R T r t) (closed false false refl refl f)
  after-b (other R T e n f) r t = moved (leaves_table.b_after_b_field p l R T r t) (closed R T refl refl f)

  after_field_lem : {k : VbvCadence} → Told p l xs k → (a r t : Bool) → Told p l (field_of a r t ∷ xs) (after k (field_of a r t))
  unfolding odd_fields led_pair before_pair anchor_flags pick
  after_field_lem (closed R T e n f) true r t = moved (leaves_table.first_anchor p l R T r t) (led R T (rw e) (rw e) f (rw e))
  after_field_lem (closed R T e n f) false r t = moved (leaves_table.first_b p l R T r t) (other R T (rw e) (rw e) f)
  after_field_lem (led R T e n g f) a r t = moved (leaves_table.pair_of_anchor p l R T a r t) (closed false false (rw e) (rw e) (rw (e, and-false a, f)))
  after_field_lem (other R T e n f) a r t = moved (leaves_table.pair_of_b p l R T a r t) (closed R T (rw e) (rw e) (rw (e, and-false a, f)))

  onward : {k : VbvCadence} → Told p l xs k → (x : PictureFacts) → Told p l (x ∷ xs) (after k x)
  onward h x = go x.anchor x.field x.repeat x.top h
    where
      go : (a f r t : Bool) {k : VbvCadence} → Told p l xs k → Told p l (record { anchor = a; field = f; repeat = r; top = t } ∷ xs) (after k (record { anchor = a; field = f; repeat = r; top = t }))
      go a true r t h = after_field_lem h a r t
      go false false r t h = after-b h r t
      go true false r t (closed R T e n f) = after_anchor R T _ r t
      go true false r t (led R T e n g f) = after_anchor R T _ r t
      go true false r t (other R T e n f) = after_anchor R T _ r t

told : (p l : Bool) (xs : List PictureFacts) → Told p l xs (cadence_after p l xs)
unfolding opened odd_fields led_pair anchor_flags cadence_after
told p l [] = closed false false refl refl refl
told p l (x ∷ xs) = onward p l xs (told p l xs) x

-- a frame by the same flags
frame_lasts_lem : (p r t : Bool) → Lasts (lasting p r t) (frame_lasts p (r, t))
unfolding lasting frame_lasts
frame_lasts_lem p r t = pick-alike Lasts r (pick-alike Lasts p (pick-alike Lasts t refl (λ e. refl)) (λ e. refl)) (λ e. refl)

-- where a field lasts the same, and an I or P frame without low_delay does, every picture does
module _ (p l : Bool) (xs : List PictureFacts) where
  alike : (x : PictureFacts) (i j : RemovalInterval) {m n : ℕ} → Lasts i m → Lasts j n
      → Lasts (pick x.field i (pick (x.anchor && not l) j (lasting p x.repeat x.top))) (pick x.field m (pick (x.anchor && not l) n (frame_lasts p (x.repeat, x.top))))
  alike x i j h g = pick-alike Lasts x.field h (λ e. pick-alike Lasts (x.anchor && not l) g (λ e. frame_lasts_lem p x.repeat x.top))

  tells : {k : VbvCadence} → Told p l xs k → (x : PictureFacts) → Lasts (interval k x) (lasts_after p l xs x)
  unfolding interval field_interval frame_interval lasting lasts_after frame_lasts led_by_anchor pick
  tells (closed R T e n f) x = rw (n, f) (alike x _ _ refl (rw (and-true R) (frame_lasts_lem p R T)))
  tells (led R T e n g f) x = rw (n, g, f) (alike x _ _ (pick-alike Lasts (R && (not p && not l)) refl (λ e. refl)) (rw (and-false R)))
  tells (other R T e n f) x = rw (n, f) (alike x _ _ refl (rw (and-true R) (frame_lasts_lem p R T)))

pub by_history : ByHistory
by_history p l xs x = tells p l xs (told p l xs) x
