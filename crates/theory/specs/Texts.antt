-- Where a text goes wrong. The law is stated of any texts and of whoever reads them; it needs to know which texts are good and where
-- their bytes and counts end.
use Rattle.std.specs.Prelude.{ℕ, suc, ◌+◌, ◌≤◌, ◌<◌, ◌≡◌, ◌⊎◌, ◌↔◌, List, [], ◌++◌, length, take, drop}
use Rattle.std.proofs.Common.{subst, inl, inr, append-nil, append_assoc, arith, take-append-drop, take-take}
use Rattle.std.proofs.Math.Numerals.{add-two}
use Rattle.std.proofs.Math.Decide.{dec_lt}
use Rattle.std.proofs.Math.Seq.{take-length}

-- A byte or a count stands from p up to q. `Seam x` says that a byte or a count begins at the place x or ends before it.
pub record Piece (Seam : ℕ → Type 0) (p q : ℕ) : Type 0 where
  pub here : Seam p
  pub there : Seam q
  pub some : p < q
  pub one : (x : ℕ) → p < x → x < q → Seam x → ⊥

-- a count: two bytes with no seam between them
pub count_piece : (Seam : ℕ → Type 0) (p : ℕ) → Seam p → (Seam (suc p) → ⊥) → Seam (suc (suc p)) → Piece Seam p (p + 2)
count_piece Seam p here within there =
    rw add-two (record { here = here; there = there; some = omega arith; one = λ x more less seam. let is : x ≡ suc p = omega arith in within (rw is at seam) })

module _ (Good : List ℕ → Type 0) (Seam : ℕ → Type 0) where
  -- l begins some good text
  abbrev pub Begun : List ℕ → Type 0
  Begun l = (rest : List ℕ) × Good (l ++ rest)

  -- The text goes wrong at p: what stands before p begins some good text, and what stands up to the end of the byte or count at p
  -- begins none.
  pub record WrongAt (l : List ℕ) (p : ℕ) : Type 0 where
    pub end : ℕ
    pub piece : Piece Seam p end
    pub within : end ≤ length l
    pub begun : Begun (take p l)
    pub wrong : Begun (take end l) → ⊥

  -- The text is cut short: all of it, up to the end of its last whole byte or count, begins some good text, and it is none itself. (A count
  -- is judged when both its bytes are there: a dossier that is the one byte 4 is cut short, though no good one begins so.)
  pub record Short (l : List ℕ) : Type 0 where
    pub end : ℕ
    pub there : Seam end
    pub within : end ≤ length l
    pub last : (x : ℕ) → end < x → x ≤ length l → Seam x → ⊥
    pub begun : Begun (take end l)
    pub lacking : Good l → ⊥

  -- what begins a text begins it still when less is taken
  begun_less : (l : List ℕ) (p q : ℕ) → p ≤ q → Begun (take q l) → Begun (take p l)
  begun_less l p q less (rest, good) =
      let parts : take p l ++ drop p (take q l) ≡ take q l = rw (← take-take p q l less) (take-append-drop p (take q l)) in
      (drop p (take q l) ++ rest, rw (← append_assoc (take p l) (drop p (take q l)) rest, parts) good)

  -- So a text goes wrong at one place at most,
  wrong_before : (l : List ℕ) (p q : ℕ) → WrongAt l p → WrongAt l q → p < q → ⊥
  wrong_before l p q w v before =
      elim (dec_lt q w.end) [
        | yes h ↦ w.piece.one q before h v.piece.here
        | no h ↦ w.wrong (begun_less l w.end q (omega arith) v.begun)
      ]

  wrong_once : (l : List ℕ) (p q : ℕ) → WrongAt l p → WrongAt l q → p ≡ q
  wrong_once l p q w v =
      elim (dec_lt p q) [
        | yes h ↦ absurd (wrong_before l p q w v h)
        | no h ↦ elim (dec_lt q p) [ yes h' ↦ absurd (wrong_before l q p v w h') | no h' ↦ omega arith ]
      ]

  -- and neither is it good then, nor cut short.
  wrong_not_good : (l : List ℕ) (p : ℕ) → WrongAt l p → Good l → ⊥
  wrong_not_good l p w good =
      w.wrong (begun_less l w.end (length l) w.within ([], rw (take-length l, append-nil l) good))

  wrong_not_short : (l : List ℕ) (p : ℕ) → WrongAt l p → Short l → ⊥
  wrong_not_short l p w s =
      elim (dec_lt s.end w.end) [
        | yes h ↦ s.last w.end h w.within w.piece.there
        | no h ↦ w.wrong (begun_less l w.end s.end (omega arith) s.begun)
      ]

  -- Where a byte or count ends with the text, to be cut short is that all of it begins some good text and that it is none itself.
  pub short_at_seam : (l : List ℕ) → Seam (length l) → Short l ↔ (Begun l × (Good l → ⊥))
  short_at_seam l seam = (
    λ s.
        elim (dec_lt s.end (length l)) [
          | yes h ↦ absurd (s.last (length l) h (omega arith) seam)
          | no h ↦ let (rest, good) = begun_less l (length l) s.end (omega arith) s.begun in ((rest, rw take-length at good), s.lacking)
        ],
    λ ((rest, good), lacking).
        record {
          end = length l;
          there = seam;
          within = omega arith;
          last = λ x behind up_to_lem at. omega arith;
          begun = (rest, rw take-length good);
          lacking = lacking;
        },
  )

  -- THE LAW. Of a text l a reading says that it is good (`SaysGood`), that it is cut short (`SaysShort`), or that it goes wrong at a place, by a number
  -- (`SaysWrong n p`). It says one of these, and each only where it is so; then it says each exactly where it is so.
  pub record Reading {N : Type 0} (Number : ℕ → N → Type 0) (l : List ℕ) (SaysGood SaysShort : Type 0) (SaysWrong : N → ℕ → Type 0) : Type 0 where
    pub one_of : SaysGood ⊎ (SaysShort ⊎ ((n : N) × (p : ℕ) × SaysWrong n p))
    pub good : SaysGood → Good l
    pub short : SaysShort → Short l
    pub wrong : (n : N) (p : ℕ) → SaysWrong n p → WrongAt l p × Number p n

  pub exactly : {N : Type 0} {Number : ℕ → N → Type 0} {l : List ℕ} {SaysGood SaysShort : Type 0} {SaysWrong : N → ℕ → Type 0}
      → ((p : ℕ) (m n : N) → Number p m → Number p n → m ≡ n) → Reading Number l SaysGood SaysShort SaysWrong
      → (SaysGood ↔ Good l) × (SaysShort ↔ Short l) × ((n : N) (p : ℕ) → SaysWrong n p ↔ (WrongAt l p × Number p n))
  exactly {l = l} {SaysWrong = SaysWrong} one_number r = (
    (
      r.good,
      λ g. elim r.one_of [
        | inl h ↦ h
        | inr (inl h) ↦ absurd ((r.short h).lacking g)
        | inr (inr (n, p, h)) ↦ absurd (wrong_not_good l p (r.wrong n p h).0 g)
      ],
    ),
    (
      r.short,
      λ s. elim r.one_of [
        | inl h ↦ absurd (s.lacking (r.good h))
        | inr (inl h) ↦ h
        | inr (inr (n, p, h)) ↦ absurd (wrong_not_short l p (r.wrong n p h).0 s)
      ],
    ),
    λ n p. (
      r.wrong n p,
      λ (w, number). elim r.one_of [
        | inl h ↦ absurd (wrong_not_good l p w (r.good h))
        | inr (inl h) ↦ absurd (wrong_not_short l p w (r.short h))
        | inr (inr (m, q, h)) ↦
            let (v, number') = r.wrong m q h in
            let place_is : q ≡ p = wrong_once l q p v w in
            let number_is : m ≡ n = one_number p m n (rw place_is at number') number in
            subst (λ x. SaysWrong x p) number_is (subst (λ x. SaysWrong m x) place_is h)
      ],
    ),
  )
