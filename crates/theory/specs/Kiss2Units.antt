-- Document 02, L2, "Read KISS2": the unit that is made of the terms, and how its states are numbered.
use Prim.Native.Nat.{ℕ, zero, suc, ◌+◌, ◌*◌, ◌^◌, ◌≤◌, ◌<◌}
use Rattle.std.proofs.Common.{arith, mul-le-mul, sym, ◌∙◌}
use Rattle.std.proofs.Math.Nat.{zero-add, pow-le-pow_right}
use Rattle.std.specs.Prelude.{◌≡◌, refl, ◌≢◌, ◌⊎◌, Bool, true, false, not}
use Rattle.std.proofs.Math.Path.{ap}
use Rattle.std.proofs.Math.Logic.{inl, inr, ⊎_map}
use mathlib.Core.List.Memᴰ
use mathlib.Core.List.{List, [], ◌∷◌, ◌++◌, map, flat_map}
use Rattle.std.proofs.Math.Option.{some}
use Rattle.std.proofs.Math.ListN.{length, get_or, length-append}
use Rattle.rules.specs.Lists.{◌∈◌, numbers, keep}
use Rattle.rules.specs.Words.{same}
use Rattle.rules.specs.Files.{unit, count_bytes, table_bytes, unit_bytes}
use Rattle.rules.specs.Needed.{distinct}
use Rattle.rules.specs.Line.{text}
use Rattle.rules.specs.Operations.{fine, read_unit}
use Rattle.rules.specs.Kiss2.{Field, Term, Says, lines_of, numbers_in, terms_in, resets_in, state_names, place_in, inputs_in, term_for, entry_of, is_about, opened, output_value, unit_said}
use Rattle.theory.specs.Sized.{Bytes, SizedTable, SizedUnit}
use Rattle.theory.specs.Lists.{outcome, optional, clash, some_injective, none_not_some, first-none, first_some, of_flat_map, At, at_in, in_at, at_below, at_get_d, numbers_length, numbers_get_d, rows_get_d, rows_length, rising_either}
use Rattle.theory.specs.Words.{same_true, same_refl, same_false, differ_same}
use Rattle.theory.specs.Sections.{OutputsBytes, table_long}
use Rattle.theory.specs.Files.{unit_read_lem, unit_written}
use Rattle.theory.specs.Cubes.{opened_small, output_small}
use Rattle.theory.specs.Kiss2Lines.{About, about_is, Differ, differ_swap}
use Rattle.theory.specs.Kiss2.{as_many_names, states_named, Read, lines_read, Whole, AllSpoken, name_of, said_in, GoodText, Imports, good_read}

-- A name's number is the place where it stands among the names,
pub place_at : (names : List Field) (name : Field) → name ∈ names → At names (place_in names name) name
place_at [] name m = absurd (Memᴰ.not-nil m)
place_at (n ∷ names) name m =
    elim (outcome (same n name)) [
      | inl is ↦ rw is (ap some (same_true n name is))
      | inr other ↦
          let later : name ∈ names = elim (Memᴰ.cases_cons m) [ inl e ↦ absurd (same_false other (sym e)) | inr n' ↦ n' ] in
          rw other (place_at names name later)
    ]

pub place_below : (names : List Field) (name : Field) → name ∈ names → place_in names name < length names
place_below names name m = at_below names (place_in names name) (place_at names name m)

-- so different states have different numbers.
pub place_apart : (names : List Field) (a b : Field) → a ∈ names → b ∈ names → place_in names a ≡ place_in names b → a ≡ b
place_apart names a b in_a in_b e = some_injective (sym (place_at names a in_a) ∙ rw e (place_at names b in_b))

module _ (said : List Says) where
  -- each current and each next state has a number
  pub current_named : (t : Term) → t ∈ terms_in said → t.current ∈ state_names said
  current_named t m = (states_named said t.current).1 (inr (t, m, inl refl))

  pub next_named : (t : Term) → t ∈ terms_in said → t.next ∈ state_names said
  next_named t m = (states_named said t.next).1 (inr (t, m, inr refl))

  entry_next : 0 < length (state_names said) → (name : Field) (i : ℕ) → (entry_of (state_names said) (term_for said name i)).0 < length (state_names said)
  entry_next some_state name i =
      elim (optional (term_for said name i)) [
        | inl nothing ↦ rw nothing some_state
        | inr (t, found) ↦ rw found (place_below (state_names said) t.next (next_named t (first_some _ (terms_in said) found).0))
      ]

  module _ (read : Read said) (t : Term) (m : t ∈ terms_in said) where
    -- `.i` is said, it is 1 to 4, and each cube has so many bits
    cube_is : length t.cube ≡ get_or (numbers_in (text ".i") said) 0 0
    cube_is = only (numbers_in (text ".i") said) (read.one_number (text ".i")) (read.inputs t m)
      where
        only : (l : List ℕ) → length l ≤ 1 → {x : ℕ} → x ∈ l → x ≡ get_or l 0 0
        only [] few n = absurd (Memᴰ.not-nil n)
        only (y ∷ []) few n = elim (Memᴰ.cases_cons n) [ inl e ↦ e | inr n' ↦ absurd (Memᴰ.not-nil n') ]
        only (y ∷ z ∷ l) few n = absurd (omega arith)

    pub cube_inputs : inputs_in said ≡ 2 ^ length t.cube
    cube_inputs = ap (λ n. 2 ^ n) (sym cube_is)

    -- so each input of a cube is one of the unit's inputs
    pub term_inputs : (i : ℕ) → i ∈ opened t.cube → i < inputs_in said
    term_inputs i has = rw cube_inputs (opened_small t.cube (read.terms t m).0 i has)

    -- an output is a byte
    pub output_byte : output_value t.output < 256
    output_byte =
        let (some_bit, few_bits) = read.in_range (text ".o") (length t.output) (read.outputs t m) in
        let high : 2 ^ length t.output ≤ 2 ^ 8 = pow-le-pow_right (omega arith) few_bits in
        omega (arith, output_small t.output (read.terms t m).3)

    pub few_inputs : (2 ≤ inputs_in said) × (inputs_in said ≤ 16)
    few_inputs =
        let (some_bit, few_bits) = read.in_range (text ".i") (length t.cube) (read.inputs t m) in
        let low : 2 ^ 1 ≤ 2 ^ length t.cube = pow-le-pow_right (omega arith) some_bit in
        let high : 2 ^ length t.cube ≤ 2 ^ 4 = pow-le-pow_right (omega arith) few_bits in
        rw cube_inputs (low, high)

  -- A unit made of terms is within the sizes.
  pub said-table : Read said → Whole said → SizedTable (inputs_in said) (length (state_names said)) (unit_said said).table
  unfolding unit_said
  said-table read whole =
      let (t, m) = whole.some_term in
      let (some_inputs, most_inputs_lem) = few_inputs read t m in
      let some_state : 0 < length (state_names said) = omega (arith, place_below (state_names said) t.current (current_named t m)) in
      record {
        some_input = omega arith;
        few_inputs = most_inputs_lem;
        some_state = some_state;
        few_states = rw (← (as_many_names said)) read.few;
        entries = rows_length _ (state_names said) (numbers (inputs_in said)) ∙ rw (numbers_length 0 (inputs_in said));
        next_states = λ e in_e.
            let (name, in_name, in_row) = of_flat_map _ (state_names said) in_e in
            let (i, in_i, is) = Memᴰ.of_map _ (numbers (inputs_in said)) in_row in
            rw (← is) (entry_next some_state name i);
      }

  -- its outputs are bytes,
  pub said_outputs : Read said → OutputsBytes (unit_said said).table
  unfolding unit_said
  said_outputs read e in_e =
      let (name, in_name, in_row) = of_flat_map _ (state_names said) in_e in
      let (i, in_i, is) = Memᴰ.of_map _ (numbers (inputs_in said)) in_row in
      rw (← is)
      (elim (optional (term_for said name i)) [
        | inl nothing ↦ rw nothing (omega arith)
        | inr (t, found) ↦ rw found (output_byte read t (first_some _ (terms_in said) found).0)
      ])

  -- 6 bytes stand before the entries, and each entry has 2.
  pub unit_long : length (unit_bytes (unit_said said)) ≡ 6 + 2 * (length (state_names said) * inputs_in said)
  unfolding unit_bytes table_bytes count_bytes unit_said
  unit_long =
      let table = flat_map (λ state. map (λ i. entry_of (state_names said) (term_for said state i)) (numbers (inputs_in said))) (state_names said) in
      let entries : length table ≡ length (state_names said) * inputs_in said =
      rows_length (λ state i. entry_of (state_names said) (term_for said state i)) (state_names said) (numbers (inputs_in said)) ∙ rw (numbers_length 0 (inputs_in said)) in
      let long = table_long table in
      simp length-append (omega arith)

  -- There are at most 2,054 of them.
  pub said_small : Read said → Whole said → length (unit_bytes (unit_said said)) ≤ 2054
  said_small read whole =
      let sized = said-table read whole in
      let entries : length (state_names said) * inputs_in said ≤ 1024 = mul-le-mul sized.few_states sized.few_inputs in
      omega (arith, unit_long)

  pub said_sized : Read said → Whole said → SizedUnit (unit_said said)
  unfolding unit_said
  said_sized read whole = record { machine = said-table read whole; size = omega (arith, said_small read whole) }

pub good_text_read : (bytes : List ℕ) → GoodText bytes → Read (said_in bytes)
good_text_read bytes g = lines_read 1 (lines_of bytes) (said_in bytes) (good_read bytes g.lines)

pub good_text_sized : (bytes : List ℕ) → GoodText bytes → SizedUnit (unit_said (said_in bytes))
good_text_sized bytes g = said_sized (said_in bytes) (good_text_read bytes g) g.whole

-- Whatever the import writes reads back as the unit that the terms say.
pub imported_reads_back : (bytes out : List ℕ) → Imports bytes out → read_unit (unit_bytes (unit_said (said_in bytes))) ≡ fine (unit_said (said_in bytes))
imported_reads_back bytes out x = unit_read_lem (unit_said (said_in bytes)) (good_text_sized bytes x.good)

-- It is bytes.
pub imported_bytes : (bytes out : List ℕ) → Imports bytes out → Bytes (unit_bytes (unit_said (said_in bytes)))
imported_bytes bytes out x =
    unit_written (unit_said (said_in bytes)) (good_text_sized bytes x.good) (said_outputs (said_in bytes) (good_text_read bytes x.good))

-- what the terms say of the state q and the input i: some term is about them and says this next state and this output, and every term that
-- is about them says the same
pub record EntrySaid (said : List Says) (q i next output : ℕ) : Type 0 where
  pub by : Term
  pub in_text : by ∈ terms_in said
  pub about : About (name_of said q) i by
  pub next_is : next ≡ place_in (state_names said) by.next
  pub output_is : output ≡ output_value by.output
  pub none_else : (t : Term) → t ∈ terms_in said → About (name_of said q) i t → (t.next ≡ by.next) × (t.output ≡ by.output)

module _ (said : List Says) where
  -- Terms that do not differ say the same of what both are about.
  agree : (name : Field) (i : ℕ) (t e : Term) → About name i t → About name i e → ¬ Differ t e → (t.next ≡ e.next) × (t.output ≡ e.output)
  agree name i t e (current, has) (current', has') alike =
      let never : (t.next ≢ e.next) ⊎ (t.output ≢ e.output) → ⊥ = λ other.
      alike (record { input = i; in_one = has; in_other = has'; same_state = current ∙ sym current'; otherwise = other })
      in (
        elim (outcome (same t.next e.next)) [ inl is ↦ same_true _ _ is | inr other ↦ absurd (never (inl (same_false other))) ],
        elim (outcome (same t.output e.output)) [ inl is ↦ same_true _ _ is | inr other ↦ absurd (never (inr (same_false other))) ],
      )

  all_agree : Read said → (name : Field) (i : ℕ) (t e : Term) → t ∈ terms_in said → e ∈ terms_in said → About name i t → About name i e
      → (t.next ≡ e.next) × (t.output ≡ e.output)
  all_agree read name i t e in_t in_e about about' =
      elim (rising_either _ (terms_in said) read.alike t e in_t in_e) [
        | inl is ↦ (ap (λ (x : Term). x.next) is, ap (λ (x : Term). x.output) is)
        | inr (inl alike) ↦ agree name i t e about about' (λ d. alike (differ_swap t e d))
        | inr (inr alike) ↦ agree name i t e about about' alike
      ]

  -- the entry of the state q and the input i
  entry_is : (q i : ℕ) → q < length (state_names said) → i < inputs_in said
      → get_or (unit_said said).table (q * inputs_in said + i) (0, 0) ≡ entry_of (state_names said) (term_for said (name_of said q) i)
  unfolding unit_said
  entry_is q i state input =
      let names = state_names said in
      let k = inputs_in said in
      let row = rows_get_d (λ name i. entry_of names (term_for said name i)) names (numbers k) q i [] 0 (0, 0) state (rw (numbers_length 0 k) input) in
      let column : get_or (numbers k) i 0 ≡ i = numbers_get_d 0 k i 0 input ∙ zero-add i in
      rw (numbers_length 0 k, column) at row

  pub entry_said : Read said → AllSpoken said → (q i : ℕ) → q < (unit_said said).states → i < (unit_said said).inputs
      → EntrySaid said q i ((unit (unit_said said)).next q i) ((unit (unit_said said)).output q i)
  unfolding unit_said
  entry_said read spoken q i state input =
      elim (optional (term_for said (name_of said q) i)) [
        | inl nothing ↦
            let (t, m, about) = spoken q i state input in
            clash ((about_is (name_of said q) i t).1 about) (first-none (is_about (name_of said q) i) nothing m)
        | inr (t, found) ↦
            let (m, is) = first_some (is_about (name_of said q) i) (terms_in said) found in
            let about = (about_is (name_of said q) i t).0 is in
            let here = entry_is q i state input ∙ ap (entry_of (state_names said)) found in
            record {
              by = t;
              in_text = m;
              about = about;
              next_is = ap (λ (e : ℕ × ℕ). e.0) here;
              output_is = ap (λ (e : ℕ × ℕ). e.1) here;
              none_else = λ e in_e about'. all_agree read (name_of said q) i e t in_e m about' about;
            }
      ]

-- Each entry of the unit that the import writes is said by some term, and no term says otherwise.
pub imported_entries : (bytes out : List ℕ) → Imports bytes out → (q i : ℕ) → q < (unit_said (said_in bytes)).states → i < (unit_said (said_in bytes)).inputs
    → EntrySaid (said_in bytes) q i ((unit (unit_said (said_in bytes))).next q i) ((unit (unit_said (said_in bytes))).output q i)
imported_entries bytes out x = entry_said (said_in bytes) (good_text_read bytes x.good) x.good.complete

-- and what a term says of each input of its cube is in the unit.
pub imported_terms : (bytes out : List ℕ) → Imports bytes out → (t : Term) → t ∈ terms_in (said_in bytes) → (i : ℕ) → i ∈ opened t.cube
    → let names = state_names (said_in bytes) in let u = unit_said (said_in bytes) in
    ((unit u).next (place_in names t.current) i ≡ place_in names t.next) × ((unit u).output (place_in names t.current) i ≡ output_value t.output)
unfolding unit_said
imported_terms bytes out x t m i has =
    let said = said_in bytes in
    let names = state_names said in
    let in_names = current_named said t m in
    let q = place_in names t.current in
    let e = imported_entries bytes out x q i (place_below names t.current in_names) (term_inputs said (good_text_read bytes x.good) t m i has) in
    let name : t.current ≡ name_of said q = sym (at_get_d names q [] (place_at names t.current in_names)) in
    let (next, output) = e.none_else t m (name, has) in
    (e.next_is ∙ ap (place_in names) (sym next), e.output_is ∙ ap output_value (sym output))

-- a occurs in the list where b has not occurred yet
abbrev pub Sooner : List Field → Field → Field → Type 0
Sooner l a b = (i : ℕ) × At l i a × ((j : ℕ) → j ≤ i → ¬ At l j b)

sooner_behind : (front l : List Field) (a b : Field) → ¬ (b ∈ front) → Sooner l a b → Sooner (front ++ l) a b
sooner_behind [] l a b other s = s
sooner_behind (x ∷ front) l a b other s =
    let (i, at, not_yet) = sooner_behind front l a b (λ m. other (Memᴰ.tail m)) s in
    (suc i, at, elim [ zero ↦ λ le here. other (Memᴰ.head (sym (some_injective here))) | suc j ↦ λ le. not_yet j (omega arith) ])

-- Of two different names one occurs sooner.
pub sooner_either : (l : List Field) (a b : Field) → a ∈ l → a ≢ b → Sooner l a b ⊎ Sooner l b a
sooner_either [] a b m other = absurd (Memᴰ.not-nil m)
sooner_either (x ∷ l) a b m other =
    elim (outcome (same x a)) [
      | inl is ↦ inl (0, ap some (same_true x a is), λ j le. first_only a (same_true x a is) b other j le)
      | inr not_a ↦
          elim (outcome (same x b)) [
            | inl is ↦ inr (0, ap some (same_true x b is), λ j le. first_only b (same_true x b is) a (λ e. other (sym e)) j le)
            | inr not_b ↦
                let later : a ∈ l = elim (Memᴰ.cases_cons m) [ inl e ↦ absurd (same_false not_a (sym e)) | inr n ↦ n ] in
                ⊎_map (behind_one b (same_false not_b) a) (behind_one a (same_false not_a) b) (sooner_either l a b later other)
          ]
    ]
  where
    first_only : (v : Field) → x ≡ v → (w : Field) → v ≢ w → (j : ℕ) → j ≤ 0 → ¬ At (x ∷ l) j w
    first_only v is w other zero le here = other (sym is ∙ some_injective here)
    first_only v is w other (suc j) le here = absurd (omega arith)

    behind_one : (w : Field) → x ≢ w → (v : Field) → Sooner l v w → Sooner (x ∷ l) v w
    behind_one w ne v s = sooner_behind (x ∷ []) l v w (λ m. ne (sym (Memᴰ.eq_of_singleton m))) s

sooner_front : (l more : List Field) (a b : Field) → Sooner l a b → Sooner (l ++ more) a b
sooner_front [] more a b (i, at, not_yet) = none_not_some at
sooner_front (x ∷ l) more a b (zero, at, not_yet) =
    (0, at, elim [ zero ↦ λ le here. not_yet 0 (omega arith) here | suc j ↦ λ le here. absurd (omega arith) ])
sooner_front (x ∷ l) more a b (suc i, at, not_yet) =
    let (i', at', not_yet') = sooner_front l more a b (i, at, λ j le. not_yet (suc j) (omega arith)) in
    (suc i', at', elim [ zero ↦ λ le here. not_yet 0 (omega arith) here | suc j ↦ λ le. not_yet' j (omega arith) ])

-- What is kept of a list stays in order.
keep_places : (test : Field → Bool) (l : List Field) (a b : Field) → test a ≡ true → test b ≡ true → place_in l a < place_in l b
    → place_in (keep test l) a < place_in (keep test l) b
keep_places test [] a b pass_a pass_b less = absurd (omega arith)
keep_places test (x ∷ l) a b pass_a pass_b less =
    elim (outcome (same x b)) [
      | inl is_b ↦ let zero_place : place_in (x ∷ l) b ≡ 0 = rw is_b in absurd (omega arith)
      | inr not_b ↦
          elim (outcome (same x a)) [
            | inl is_a ↦ let pass : test x ≡ true = rw (same_true x a is_a) pass_a in rw (pass, is_a, not_b) (omega arith)
            | inr not_a ↦
                let rest = keep_places test l a b pass_a pass_b (omega (arith, rw (not_a, not_b) at less)) in
                elim (outcome (test x)) [ inl pass ↦ rw (pass, not_a, not_b) (omega arith) | inr fails ↦ rw fails rest ]
          ]
    ]

-- Names that are kept once, at their first places, are numbered by when they first occur.
pub first_places : (l : List Field) (a b : Field) → Sooner l a b → place_in (distinct l) a < place_in (distinct l) b
first_places [] a b (i, at, not_yet) = none_not_some at
first_places (x ∷ l) a b (i, at, not_yet) =
    let other : x ≢ b = λ e. not_yet 0 (omega arith) (ap some e) in
    elim (outcome (same x a)) [
      | inl is ↦ rw (is, differ_same other) (omega arith)
      | inr not_a ↦
          let apart = same_false not_a in
          let later = first_places l a b (elim i as (λ i. At (x ∷ l) i a → ((j : ℕ) → j ≤ i → ¬ At (x ∷ l) j b) → Sooner l a b) [
            | zero ↦ λ here n. absurd (apart (some_injective here))
            | suc i' ↦ λ there n. (i', there, λ j le. n (suc j) (omega arith))
          ] at not_yet) in
          let pass_a : same a x ≡ false = differ_same (λ e. apart (sym e)) in
          let pass_b : same b x ≡ false = differ_same (λ e. other (sym e)) in
          let kept = keep_places (λ v. not (same v x)) (distinct l) a b (rw pass_a) (rw pass_b) later in
          rw (not_a, differ_same other) (omega arith)
    ]

-- the reset state: the one that `.r` names, else the first term's current state
pub data ResetState (said : List Says) (name : Field) : Type 0 where
  named : name ∈ resets_in said → ResetState said name
  first_current : resets_in said ≡ [] → (t : Term) → At (terms_in said) 0 t → t.current ≡ name → ResetState said name

-- How the states are numbered.
pub record Numbered (said : List Says) : Type 0 where
  pub reset_zero : (r : Field) → ResetState said r → place_in (state_names said) r ≡ 0
  -- the others as they first occur as a current state
  pub currents : (a b : Field) → ¬ ResetState said b → Sooner (map (λ t. t.current) (terms_in said)) a b
      → place_in (state_names said) a < place_in (state_names said) b
  -- then those that occur only as a next state, as they first occur there
  pub only_next : (t : Term) → t ∈ terms_in said → (b : Field) → ¬ ResetState said b → ((e : Term) → e ∈ terms_in said → e.current ≢ b)
      → place_in (state_names said) t.current < place_in (state_names said) b
  pub nexts : (a b : Field) → ¬ ResetState said b → ((e : Term) → e ∈ terms_in said → e.current ≢ b) → Sooner (map (λ t. t.next) (terms_in said)) a b
      → place_in (state_names said) a < place_in (state_names said) b
  -- two states have two numbers
  pub apart : (a b : Field) → a ∈ state_names said → b ∈ state_names said → place_in (state_names said) a ≡ place_in (state_names said) b → a ≡ b

module _ (said : List Says) where
  abbrev currents_in : List Field
  currents_in = map (λ t. t.current) (terms_in said)

  abbrev nexts_in : List Field
  nexts_in = map (λ t. t.next) (terms_in said)

  no_current : (b : Field) → ((e : Term) → e ∈ terms_in said → e.current ≢ b) → ¬ (b ∈ currents_in)
  no_current b other m = let (t, in_t, is) = Memᴰ.of_map (λ (t : Term). t.current) (terms_in said) m in other t in_t is

  sooner_current : (a b : Field) → ¬ ResetState said b → Sooner currents_in a b → place_in (state_names said) a < place_in (state_names said) b
  unfolding state_names
  sooner_current a b other s =
      first_places (resets_in said ++ currents_in ++ nexts_in) a b
      (sooner_front (resets_in said ++ currents_in) nexts_in a b (sooner_behind (resets_in said) currents_in a b (λ m. other (named m)) s))

  pub numbered : Read said → Numbered said
  unfolding state_names
  numbered read =
      record {
        reset_zero = λ r is. elim is [
          | named m ↦ front (resets_in said) read.one_reset r m
          | first_current no_reset t at current ↦ rw no_reset (begin (terms_in said) t at r current)
        ];
        currents = sooner_current;
        only_next = λ t m b other never.
            let (i, at) = in_at (Memᴰ.map (λ (t : Term). t.current) m) in
            sooner_current t.current b other (i, at, λ j le here. no_current b never (at_in currents_in j here));
        nexts = λ a b other never s.
            first_places (resets_in said ++ currents_in ++ nexts_in) a b
            (sooner_behind (resets_in said ++ currents_in) nexts_in a b
            (λ m. elim (Memᴰ.append_cases (resets_in said) m) [ inl r ↦ other (named r) | inr c ↦ no_current b never c ]) s);
        apart = place_apart (distinct (resets_in said ++ currents_in ++ nexts_in));
      }
    where
      front : (resets : List Field) → length resets ≤ 1 → (r : Field) → r ∈ resets
          → place_in (distinct (resets ++ currents_in ++ nexts_in)) r ≡ 0
      front [] few r m = absurd (Memᴰ.not-nil m)
      front (x ∷ []) few r m = rw (Memᴰ.eq_of_singleton m, same_refl x)
      front (x ∷ y ∷ l) few r m = absurd (omega arith)

      begin : (terms : List Term) (t : Term) → At terms 0 t → (r : Field) → t.current ≡ r
          → place_in (distinct (map (λ t. t.current) terms ++ map (λ t. t.next) terms)) r ≡ 0
      begin [] t at r current = none_not_some at
      begin (x ∷ terms) t at r current = let is : x ≡ t = some_injective at in rw (is, current, same_refl r)

-- So are the states of the unit that the import writes.
pub imported_numbered : (bytes out : List ℕ) → Imports bytes out → Numbered (said_in bytes)
imported_numbered bytes out x = numbered (said_in bytes) (good_text_read bytes x.good)
