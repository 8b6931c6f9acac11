-- The two fields of a term whose bits are read: its cube and its output.
use Rattle.std.specs.Prelude.{ℕ, ◌-◌, ◌≤◌, ◌≡◌, List, true}
use Rattle.rules.specs.Kiss2.{is_cube, is_output}
use Rattle.importer_lines.specs.declared.Part.{Part}
use Rattle.importer_lines.specs.Parts.{bytes_at, FieldIn}

-- a cube stands there, of at most as many bits as `.i` may say
pub record CubeIn (text : List ℕ) (cube : Part) : Type 0 where
  pub field_in : FieldIn text cube
  pub is_cube : is_cube (bytes_at text cube) ≡ true
  pub short : cube.end - cube.start ≤ 4

-- an output stands there, of at most as many bits as `.o` may say
pub record OutputIn (text : List ℕ) (output : Part) : Type 0 where
  pub field_in : FieldIn text output
  pub is_output : is_output (bytes_at text output) ≡ true
  pub short : output.end - output.start ≤ 8
