-- Document 01, "Sizes".
use Rattle.std.specs.Prelude.{ℕ, zero, suc, ◌+◌, Bool, ◌&&◌, leb}

abbrev pub most_inputs : ℕ
most_inputs = 16

abbrev pub most_states : ℕ
most_states = 64

-- by how many states the bound may pass the golden's
abbrev pub most_added_states : ℕ
most_added_states = 4

-- the inputs of a cover or separating word
abbrev pub most_set_word : ℕ
most_set_word = 97

-- the inputs of a test or a sheet word
abbrev pub most_test_word : ℕ
most_test_word = 200

abbrev pub most_dossier_bytes : ℕ
most_dossier_bytes = 65535

abbrev pub most_unit_bytes : ℕ
most_unit_bytes = 65535

abbrev pub most_sheet_bytes : ℕ
most_sheet_bytes = 131070

-- a number of at least 1 and at most `most`
abbrev pub counts : ℕ → ℕ → Bool
counts most x = leb 1 x && leb x most

-- the bound that the byte for m stands for, where the golden has n states
abbrev pub bound_of : ℕ → ℕ → ℕ
bound_of n zero = n
bound_of n (suc b) = suc b

-- whether that bound is in range
abbrev pub bound_good : ℕ → ℕ → Bool
bound_good n b = leb n (bound_of n b) && leb (bound_of n b) most_states && leb (bound_of n b) (n + most_added_states)
