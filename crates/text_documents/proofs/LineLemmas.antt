-- Lines of a text: what follows the first one, and what follows so many.
use Rattle.std.proofs.Common.{◌≡◌, ℕ, zero, suc, ◌<◌, Bool, true, false, not, ◌&&◌, ◌||◌, ◌==◌, List, [], ◌∷◌, ◌++◌, Option, Some, None, MatchOption, option_and_then, refl, sym, ap, ◌∙◌, subst, inl, inr, arith, append_assoc, eqb-true}
use Rattle.std.proofs.lemmas.Bool.{cases_Bool}
use Rattle.std.proofs.lemmas.Grind.{common_steps}
use Rattle.text_documents.specs.Lines.{End, feed, return_feed, return, ending, is_break, IsUnbroken, begins_with_feed, MayFollow, AreLines}
use Rattle.text_documents.specs.Places.{LacksLine}
use Rattle.text_documents.specs.Walks.{without_feed, after_line, after_lines}

-- ---- characters that end no line
pub record NoBreak (c : ℕ) : Type 0 where
  pub no_feed : (c == 10) ≡ false
  pub no_return : (c == 13) ≡ false

neither : (a b : Bool) → (a || b) ≡ false → (a ≡ false) × (b ≡ false)
neither a b h = grind (arith, common_steps)

pub no_break : (c : ℕ) → is_break c ≡ false → NoBreak c
no_break c h = let p = neither (c == 10) (c == 13) h in record { no_feed = p.0; no_return = p.1 }

pub is_no_break : (c : ℕ) → NoBreak c → is_break c ≡ false
is_no_break c n = rw (n.no_feed, n.no_return) refl

parts : (b r : Bool) → (not b && r) ≡ true → (b ≡ false) × (r ≡ true)
parts b r h = grind (arith, common_steps)

pub unbroken_first : (c : ℕ) (cs : List ℕ) → IsUnbroken (c ∷ cs) → is_break c ≡ false
unbroken_first c cs u = (parts (is_break c) _ u).0

pub unbroken_rest : (c : ℕ) (cs : List ℕ) → IsUnbroken (c ∷ cs) → IsUnbroken cs
unbroken_rest c cs u = (parts (is_break c) _ u).1

pub unbroken_cons : (c : ℕ) (cs : List ℕ) → is_break c ≡ false → IsUnbroken cs → IsUnbroken (c ∷ cs)
unbroken_cons c cs h u = grind arith

-- ---- what follows the first line
pub without_feed_none : (cs : List ℕ) → begins_with_feed cs ≡ false → without_feed cs ≡ cs
without_feed_none cs h = grind (arith, common_steps)

pub after_line_step : (c : ℕ) (cs : List ℕ) → is_break c ≡ false → after_line (c ∷ cs) ≡ after_line cs
after_line_step c cs h = let n = no_break c h in rw (n.no_feed, n.no_return) refl

pub after_line_is : (line : List ℕ) (end : End) (rest : List ℕ) → IsUnbroken line → MayFollow end rest → after_line (line ++ (ending end ++ rest)) ≡ Some rest
after_line_is [] end rest u m = grind (arith, without_feed_none)
after_line_is (c ∷ cs) end rest u m = after_line_step c (cs ++ (ending end ++ rest)) (unbroken_first c cs u) ∙ after_line_is cs end rest (unbroken_rest c cs u) m

pub after_line_none : (line : List ℕ) → IsUnbroken line → after_line line ≡ None
after_line_none [] u = refl
after_line_none (c ∷ cs) u = after_line_step c cs (unbroken_first c cs u) ∙ after_line_none cs (unbroken_rest c cs u)

-- a text begins with a line and its end, and these characters follow
pub record FirstLine (cs rest : List ℕ) : Type 0 where
  pub line : List ℕ
  pub end : End
  pub is : cs ≡ line ++ (ending end ++ rest)
  pub unbroken : IsUnbroken line
  pub follows : MayFollow end rest

abbrev pub LineFound : List ℕ → Option (List ℕ) → Type 0
LineFound cs r = MatchOption r (IsUnbroken cs) (FirstLine cs)

return_line : (cs : List ℕ) → FirstLine (13 ∷ cs) (without_feed cs)
return_line [] = record { line = []; end = return; is = refl; unbroken = refl; follows = refl }
return_line (d ∷ ds) = elim (cases_Bool (d == 10)) [
  | inl e ↦ subst (λ x. FirstLine (13 ∷ x ∷ ds) (without_feed (x ∷ ds))) (sym (eqb-true d 10 e)) (record { line = []; end = return_feed; is = refl; unbroken = refl; follows = tt })
  | inr e ↦ subst (FirstLine (13 ∷ d ∷ ds)) (sym (without_feed_none (d ∷ ds) e)) (record { line = []; end = return; is = refl; unbroken = refl; follows = e })
]

feed_line : (cs : List ℕ) → LineFound (10 ∷ cs) (after_line (10 ∷ cs))
feed_line cs = record { line = []; end = feed; is = refl; unbroken = refl; follows = tt }

longer : (c : ℕ) (cs : List ℕ) (r : Option (List ℕ)) → is_break c ≡ false → LineFound cs r → LineFound (c ∷ cs) r
longer c cs None h f = unbroken_cons c cs h f
longer c cs (Some rest) h f = record { line = c ∷ f.line; end = f.end; is = ap (λ x. c ∷ x) f.is; unbroken = unbroken_cons c f.line h f.unbroken; follows = f.follows }

pub first_line : (cs : List ℕ) → LineFound cs (after_line cs)
first_line [] = refl
first_line (c ∷ cs) = grind (arith, common_steps, first_line cs, feed_line cs, return_line cs, is_no_break c, after_line_step c cs, longer c cs (after_line cs))

-- ---- what follows so many lines
pub regrouped : (line : List ℕ) (end : End) (more rest : List ℕ) → (line ++ (ending end ++ more)) ++ rest ≡ line ++ (ending end ++ (more ++ rest))
regrouped line end more rest = append_assoc line (ending end ++ more) rest ∙ ap (λ x. line ++ x) (append_assoc (ending end) more rest)

pub after_lines_is : (n : ℕ) (front rest : List ℕ) → AreLines n front rest → after_lines n (front ++ rest) ≡ Some rest
after_lines_is zero front rest h = ap (λ x. Some (x ++ rest)) h
after_lines_is (suc n) front rest h =
    ap (λ t. option_and_then (after_lines n) (after_line t)) (ap (λ x. x ++ rest) h.3 ∙ regrouped h.0 h.1 h.2 rest)
    ∙ ap (option_and_then (after_lines n)) (after_line_is h.0 h.1 (h.2 ++ rest) h.4 h.5)
    ∙ after_lines_is n h.2 rest h.6

pub after_lines_none : (m n : ℕ) (front rest : List ℕ) → AreLines m front rest → IsUnbroken rest → m < n → after_lines n (front ++ rest) ≡ None
after_lines_none m zero front rest h u l = absurd (omega arith)
after_lines_none zero (suc n) front rest h u l = ap (λ x. option_and_then (after_lines n) (after_line (x ++ rest))) h ∙ ap (option_and_then (after_lines n)) (after_line_none rest u)
after_lines_none (suc m) (suc n) front rest h u l =
    ap (λ t. option_and_then (after_lines n) (after_line t)) (ap (λ x. x ++ rest) h.3 ∙ regrouped h.0 h.1 h.2 rest)
    ∙ ap (option_and_then (after_lines n)) (after_line_is h.0 h.1 (h.2 ++ rest) h.4 h.5)
    ∙ after_lines_none m n h.2 rest h.6 u (omega arith)

-- one more line
pub AreLines-more : (n : ℕ) (front line : List ℕ) (end : End) (rest : List ℕ) → AreLines n front (line ++ (ending end ++ rest)) → IsUnbroken line → MayFollow end rest
    → AreLines (suc n) (front ++ (line ++ ending end)) rest
AreLines-more zero front line end rest h u m = grind (arith, common_steps)
AreLines-more (suc n) front line end rest h u m = grind (arith, common_steps, AreLines-more n h.2 line end rest h.6 u m, regrouped h.0 h.1 h.2 (line ++ ending end))

-- where a text has so many lines
abbrev pub LinesFound : ℕ → List ℕ → Option (List ℕ) → Type 0
LinesFound n cs r = MatchOption r (LacksLine cs n) (λ rest. (front : List ℕ) × (cs ≡ front ++ rest) × AreLines n front rest)

behind : (n : ℕ) (cs more : List ℕ) (r : Option (List ℕ)) → FirstLine cs more → LinesFound n more r → LinesFound (suc n) cs r
behind n cs more None f l = record {
  last = suc l.last;
  begun = l.begun;
  in_line = record {
    above = f.line ++ (ending f.end ++ l.in_line.above);
    front_is = f.is ∙ ap (λ x. f.line ++ (ending f.end ++ x)) l.in_line.front_is ∙ sym (regrouped f.line f.end l.in_line.above l.begun);
    are_lines = grind (arith, common_steps);
    unbroken = l.in_line.unbroken;
  };
  before = omega (arith, l.before);
}
behind n cs more (Some rest) f l = grind (arith, common_steps, regrouped f.line f.end l.0 rest)

lacking : (n : ℕ) (cs : List ℕ) → IsUnbroken cs → LacksLine cs (suc n)
lacking n cs u = grind (arith, common_steps)

pub lines_found : (n : ℕ) (cs : List ℕ) → LinesFound n cs (after_lines n cs)
lines_found zero cs = ([], refl, refl)
lines_found (suc n) cs = grind (arith, common_steps, lacking, behind, lines_found n, first_line cs)
