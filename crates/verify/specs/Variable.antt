-- What is owed of the check at a variable rate (paper 02, request 06), beside what is owed of every mode: 'the expected delay, in records and in 10, is 65,535', and the coded one is the
-- same; every accepted stream sees a full buffer. Assumes nothing.
use Rattle.std.specs.Prelude.{ℕ, ◌≡◌, Bool, true, List, [], ◌∷◌}
use Rattle.bits.specs.Refusals.{value, refused}
use Rattle.verify.specs.Mode.{mpeg2}
use Rattle.verify.specs.Check.{Accepted, verdict, report_of}
use Rattle.verify.specs.declared.VbvPictureRecord.{VbvPictureRecord}

-- no record tells a time
pub data AllUntimed : List VbvPictureRecord → Type 0 where
  none : AllUntimed []
  more : {r : VbvPictureRecord} {rs : List VbvPictureRecord} → r.vbv_delay ≡ 65535 → r.expected_delay ≡ 65535 → AllUntimed rs → AllUntimed (r ∷ rs)

-- what is owed, of film or not
pub record VariableRate : Type 0 where
  pub untimed : (film : Bool) (s : List ℕ) (places : ℕ) (a : Accepted) → verdict (mpeg2 film true) s places ≡ value a → AllUntimed (a.first ∷ a.others)
  pub starved : (film : Bool) (s : List ℕ) (places n c e : ℕ) → verdict (mpeg2 film true) s places ≡ refused 10 n c e → (c ≡ 65535) × (e ≡ 65535)
  pub seen_full : (film : Bool) (s : List ℕ) (places : ℕ) (a : Accepted) → verdict (mpeg2 film true) s places ≡ value a
      → (report_of a).max_occupancy_before_bits ≡ a.params.buffer_size_bits
