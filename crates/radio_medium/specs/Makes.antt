-- The promise of `Medium::new`.
use Rattle.std.specs.Prelude.{◌≡◌, Some, None, Result, Ok, Err}
use Rattle.radio_medium.specs.declared.error.MediumError.{MediumError}
use Rattle.radio_medium.specs.declared.error.MediumError.TheVariants.{Memory}
use Rattle.radio_medium.specs.Medium.{Radio, medium_fault}

-- the medium with these data, or their first error; if an allocation failed, nothing is claimed
abbrev pub MakesMedium : Radio → Result Radio MediumError → Type 0
MakesMedium radio (Ok medium) = (medium ≡ radio) × (medium_fault radio ≡ None)
MakesMedium radio (Err Memory) = Unit {0}
MakesMedium radio (Err error) = medium_fault radio ≡ Some error
