-- What a stream is checked as (paper 02, requests 05 and 06): a standard, plain or film, a constant or a variable rate. Film and a variable rate are MPEG-2's alone.
-- Assumes nothing.
use Rattle.std.specs.Prelude.{Bool, true, false, ◌||◌}
use Rattle.bits.specs.Bits.{pick}
use Rattle.pictures.specs.declared.VbvStandard.{VbvStandard}
use Rattle.pictures.specs.declared.VbvStandard.TheVariants.{Mpeg1, Mpeg2}
use Rattle.verify.specs.declared.VbvMode.{VbvMode}

-- outside film, at a constant rate
abbrev pub plain : VbvStandard → VbvMode
plain standard = record { standard = standard; film = false; variable = false }

-- of film or not, at a variable rate or not
abbrev pub mpeg2 : Bool → Bool → VbvMode
mpeg2 film variable = record { standard = Mpeg2; film = film; variable = variable }

-- film, at a constant rate
abbrev pub film : VbvMode
film = mpeg2 true false

unfoldable pub has_modes : VbvStandard → Bool
has_modes Mpeg1 = false
has_modes Mpeg2 = true

unfoldable pub mode_fits : VbvMode → Bool
mode_fits m = pick (m.film || m.variable) (has_modes m.standard) true
