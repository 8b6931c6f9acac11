-- The directives' names, and what a field that stands before another one names.
use Rattle.std.specs.Prelude.{◌≡◌, false}
use Rattle.rules.specs.Words.{same}
use Rattle.rules.specs.Line.{text}
use Rattle.rules.specs.Kiss2.{Field, most_of}
use Rattle.importer_says.specs.declared.Directive.{Directive}
use Rattle.importer_says.specs.declared.Directive.TheVariants.{Inputs, Outputs, Terms, States}
use Rattle.importer_says.specs.declared.Named.{Named}
use Rattle.importer_says.specs.declared.Named.TheVariants.{Number, Reset, Other}

abbrev pub name_of : Directive → Field
name_of Inputs = text ".i"
name_of Outputs = text ".o"
name_of Terms = text ".p"
name_of States = text ".s"

abbrev pub reset_name : Field
reset_name = text ".r"

abbrev pub end_name : Field
end_name = text ".e"

-- a field that names no directive: no number may be said, and no reset state
pub record NamesNone (field : Field) : Type 0 where
  pub no_most : most_of field ≡ 0
  pub no_reset : same field reset_name ≡ false

-- by the answer r
abbrev pub Names : Field → Named → Type 0
Names field (Number directive) = field ≡ name_of directive
Names field Reset = field ≡ reset_name
Names field Other = NamesNone field

-- the answer r tells what a field names
pub record NamedAs (field : Field) (r : Named) : Type 0 where
  pub told : Names field r
