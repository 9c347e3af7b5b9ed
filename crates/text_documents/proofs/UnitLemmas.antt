-- Units of a line: what follows so many.
use Rattle.std.proofs.Common.{◌≡◌, ℕ, ◌+◌, ◌-◌, ◌<◌, ◌≤◌, true, false, ◌==◌, nat_lt, List, [], ◌∷◌, ◌++◌, ◌⊎◌, Option, Some, None, MatchOption, length, refl, sym, ap, ◌∙◌, inl, inr, arith}
use Rattle.std.specs.Char.Escape.{encode_utf16}
use Rattle.std.proofs.lemmas.Bool.{cases_Bool, eqb-false}
use Rattle.std.proofs.lemmas.List.Sums.{sum_by-cons}
use Rattle.std.proofs.lemmas.Grind.{common_steps}
use Rattle.text_documents.specs.Lines.{is_break, is_at_end, IsUnbroken}
use Rattle.text_documents.specs.Places.{units, units_of}
use Rattle.text_documents.specs.Walks.{after_units}
use Rattle.text_documents.proofs.LineLemmas.{unbroken_first, unbroken_rest, unbroken_cons}

-- one unit below 65536, and else two
pub units_cases : (c : ℕ) → ((c < 65536) × (units c ≡ 1)) ⊎ ((65536 ≤ c) × (units c ≡ 2))
units_cases c = grind (arith, common_steps)

pub units-length : (c : ℕ) → units c ≡ length (encode_utf16 c)
units-length c = elim (cases_Bool (nat_lt c 65536)) [ inl e ↦ rw e refl | inr e ↦ rw e refl ]

pub units_pos : (c : ℕ) → 0 < units c
units_pos c = elim (units_cases c) [ inl h ↦ omega (arith, h.1) | inr h ↦ omega (arith, h.1) ]

pub units_more : (c : ℕ) (cs : List ℕ) → units_of (c ∷ cs) ≡ units c + units_of cs
units_more c cs = sum_by-cons units c cs

-- ---- one character
pub after_units_zero : (cs : List ℕ) → after_units 0 cs ≡ Some cs
after_units_zero [] = refl
after_units_zero (c ∷ cs) = refl

pub after_units_break : (n c : ℕ) (cs : List ℕ) → is_break c ≡ true → after_units n (c ∷ cs) ≡ Some (c ∷ cs)
after_units_break n c cs h = elim (cases_Bool (n == 0)) [ inl e ↦ rw e refl | inr e ↦ rw (e, h) refl ]

pub after_units_step : (n c : ℕ) (cs : List ℕ) → is_break c ≡ false → units c ≤ n → after_units n (c ∷ cs) ≡ after_units (n - units c) cs
after_units_step n c cs h l = grind (arith, common_steps, units_pos c)

pub after_units_inside : (n c : ℕ) (cs : List ℕ) → is_break c ≡ false → 0 < n → n < units c → after_units n (c ∷ cs) ≡ None
after_units_inside n c cs h p l = grind (arith, common_steps)

-- ---- where the units end
pub units_exact : (begun back : List ℕ) (n : ℕ) → IsUnbroken begun → units_of begun ≡ n → after_units n (begun ++ back) ≡ Some back
units_exact [] back n u e = ap (λ k. after_units k back) (sym e) ∙ after_units_zero back
units_exact (c ∷ cs) back n u e =
    after_units_step n c (cs ++ back) (unbroken_first c cs u) (omega (arith, e, units_more c cs))
    ∙ units_exact cs back (n - units c) (unbroken_rest c cs u) (omega (arith, e, units_more c cs))

pub units_past : (begun back : List ℕ) (n : ℕ) → IsUnbroken begun → is_at_end back ≡ true → units_of begun < n → after_units n (begun ++ back) ≡ Some back
units_past (c ∷ cs) back n u h l =
    after_units_step n c (cs ++ back) (unbroken_first c cs u) (omega (arith, l, units_more c cs))
    ∙ units_past cs back (n - units c) (unbroken_rest c cs u) h (omega (arith, l, units_more c cs))
units_past begun back n u h l = grind arith

pub units_inside : (begun back : List ℕ) (wide n : ℕ) → IsUnbroken begun → units wide ≡ 2 → units_of begun + 1 ≡ n → after_units n (begun ++ wide ∷ back) ≡ None
units_inside [] back wide n u w e = after_units_inside n wide back (grind (arith, units_cases)) (omega (arith, e)) (omega (arith, e, w))
units_inside (c ∷ cs) back wide n u w e =
    after_units_step n c (cs ++ wide ∷ back) (unbroken_first c cs u) (omega (arith, e, units_more c cs))
    ∙ units_inside cs back wide (n - units c) (unbroken_rest c cs u) w (omega (arith, e, units_more c cs))

-- ---- what is found
pub record PairIn (n : ℕ) (cs : List ℕ) : Type 0 where
  pub begun : List ℕ
  pub wide : ℕ
  pub back : List ℕ
  pub parts : cs ≡ begun ++ wide ∷ back
  pub unbroken : IsUnbroken begun
  pub pair : units wide ≡ 2
  pub before : units_of begun + 1 ≡ n

pub record UnitsEnd (n : ℕ) (cs back : List ℕ) : Type 0 where
  pub begun : List ℕ
  pub parts : cs ≡ begun ++ back
  pub unbroken : IsUnbroken begun
  pub where_ : (units_of begun ≡ n) ⊎ ((is_at_end back ≡ true) × (units_of begun < n))

abbrev pub UnitsFound : ℕ → List ℕ → Option (List ℕ) → Type 0
UnitsFound n cs r = MatchOption r (PairIn n cs) (UnitsEnd n cs)

ends_here : (n : ℕ) (cs : List ℕ) → (0 ≡ n) ⊎ ((is_at_end cs ≡ true) × (0 < n)) → UnitsEnd n cs cs
ends_here n cs w = record { begun = []; parts = refl; unbroken = refl; where_ = w }

longer : (n c : ℕ) (cs : List ℕ) (r : Option (List ℕ)) → is_break c ≡ false → units c ≤ n → UnitsFound (n - units c) cs r → UnitsFound n (c ∷ cs) r
longer n c cs None h l f = record {
  begun = c ∷ f.begun;
  wide = f.wide;
  back = f.back;
  parts = ap (λ x. c ∷ x) f.parts;
  unbroken = unbroken_cons c f.begun h f.unbroken;
  pair = f.pair;
  before = omega (arith, units_more c f.begun, f.before, l);
}
longer n c cs (Some back) h l f = record {
  begun = c ∷ f.begun;
  parts = ap (λ x. c ∷ x) f.parts;
  unbroken = unbroken_cons c f.begun h f.unbroken;
  where_ = grind (arith, common_steps, units_more);
}

inside : (n c : ℕ) (cs : List ℕ) → 0 < n → n < units c → PairIn n (c ∷ cs)
inside n c cs p l = elim (units_cases c) [
  | inl h ↦ absurd (omega (arith, p, l, h.1))
  | inr h ↦ record { begun = []; wide = c; back = cs; parts = refl; unbroken = refl; pair = h.1; before = (let e : 1 ≡ n = omega (arith, p, l, h.1) in e) }
]

positive : (n : ℕ) → (n == 0) ≡ false → 0 < n
positive n e = let no = eqb-false n 0 e in omega (arith, no)

pub units_found : (cs : List ℕ) (n : ℕ) → UnitsFound n cs (after_units n cs)
units_found [] n = ends_here n [] (grind arith)
units_found (c ∷ cs) n = elim (cases_Bool (n == 0)) [
  | inl e ↦ grind (arith, common_steps, ends_here)
  | inr e ↦ grind (arith, common_steps, units_found cs (n - units c), after_units_break, ends_here, positive, after_units_inside, inside, after_units_step, longer)
]
