-- The table and the worked lists hold: by computation, the flags taken one by one.
-- Assumes nothing.
use Prim.Native.Nat.{◌+◌}
use mathlib.Core.Path.{◌≡◌, refl}
use mathlib.Core.Bool.{Bool, true, false, not, ◌&&◌, and-true, and-false}
use mathlib.Core.List.{List}
use Rattle.bits.specs.Bits.{pick}
use Rattle.headers.specs.Answers.{flag_of}
use Rattle.vbv.specs.Model.{periods}
use Rattle.vbv.specs.declared.RemovalInterval.TheVariants.{Frame, Field}
use Rattle.picture_header.specs.declared.PictureFacts.{PictureFacts}
use Rattle.cadence.specs.Cadence.{opened, lasting, led_by_anchor, is_closed, field_interval, frame_interval, interval, with, closed, after_field, after_frame, after}
use Rattle.cadence.specs.Table.{frames, Periods, Leaves, all_periods, Lists, Worked}

-- a frame by its flags
interlaced : (r t : Bool) → periods (lasting false r t) ≡ 2 + flag_of r
unfolding lasting pick
interlaced true t = refl
interlaced false t = refl

progressive : (r t : Bool) → periods (lasting true r t) ≡ frames r t
unfolding lasting pick
progressive true true = refl
progressive true false = refl
progressive false t = refl

-- the second field of a pair, where nothing but the flag can make it long
second : (r : Bool) → periods (pick (r && true) Frame Field) ≡ 1 + flag_of r
unfolding pick
second true = refl
second false = refl

pub periods_table : Periods
unfolding interval field_interval frame_interval led_by_anchor pick
periods_table = record {
  b_frame = λ l R T o r t. interlaced r t;
  anchor_frame = λ R T r t. rw and-true (interlaced R T);
  anchor_after_b_field = λ R T r t. rw and-true (interlaced R T);
  anchor_after_field = λ R T r t. rw and-false (interlaced false T);
  low_delay = λ R T o r t. interlaced r t;
  progressive_b = λ l R T o r t. progressive r t;
  progressive_anchor = λ R T r t. rw and-true (progressive R T);
  progressive_after_b_field = λ R T r t. rw and-true (progressive R T);
  progressive_after_field = λ R T r t. rw and-false (progressive false T);
  progressive_low_delay = λ R T o r t. progressive r t;
  first_field = λ p l R T a r t. refl;
  second_after_b = λ p l R T a r t. refl;
  second_after_anchor = λ R T a r t. second R;
  second_low_delay = λ p R T a r t. rw (and-false (not p), and-false R);
  second_progressive = λ l R T a r t. rw (and-false R);
}

pub leaves_table : Leaves
unfolding after after_field after_frame closed with led_by_anchor is_closed pick
leaves_table = record {
  anchor_frame = λ p l R T o r t. refl;
  b_frame = λ p l R T r t. simp and-true;
  b_after_b_field = λ p l R T r t. simp and-true;
  b_after_field = λ p l R T r t. simp and-false;
  pair_of_anchor = λ p l R T a r t. simp and-false;
  pair_of_b = λ p l R T a r t. simp and-true;
  first_anchor = λ p l R T r t. refl;
  first_b = λ p l R T r t. refl;
}

-- a list's periods are those that it is asked for
computed : (xs : List PictureFacts) → Lists xs (all_periods (opened true false false) xs) (all_periods (opened true false true) xs) (all_periods (opened true true false) xs) (all_periods (opened true true true) xs)
computed xs = record { interlaced_is = refl; low_is = refl; progressive_is = refl; both_is = refl }

pub worked : Worked
unfolding opened interval field_interval frame_interval lasting after after_field after_frame closed with led_by_anchor is_closed pick all_periods
worked = record {
  anchors = computed _;
  b_between = computed _;
  b_first = computed _;
  pair = computed _;
  left_over = computed _;
  left_over_then_b = computed _;
  b_pair = computed _;
  b_left_over = computed _;
  led_by_p = computed _;
  led_by_b = computed _;
  pair_first = computed _;
  three_fields = computed _;
  top = computed _;
  top_alone = computed _;
  top_of_b = computed _;
  film_group = computed _;
}
