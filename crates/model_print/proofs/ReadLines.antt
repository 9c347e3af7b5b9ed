-- Tokens of single lines, read; and what stands at each depth from a line on.
use Rattle.std.proofs.Common.{◌≡◌, ℕ, zero, suc, ◌+◌, ◌<◌, List, [], ◌∷◌, ◌++◌, map, Option, Some, refl, ap, arith}
use Rattle.std.proofs.lemmas.Grind.{common_steps}
use Rattle.std.proofs.lemmas.Bool.Decides.{nat_tests}
use Rattle.model.specs.sites.Sites.{Site, constructor_site, Constraint}
use Rattle.model_print.specs.Lines.{Token, Ending, colon, Line, line}
use Rattle.model_print.specs.PrintedTrees.{sites_tokens, site_tokens, constraint_tokens, field_token}
use Rattle.model_print.specs.ReadTrees.{sites_in, fields_in, field_of, read_site, read_line, begins_arm, no_level, placed, levels}
use Rattle.model_print.specs.TreesRead.{shown_site, shown_constraint}

pub sites_back : (ss : List ℕ) → sites_in (sites_tokens ss) ≡ ss
sites_back [] = refl
sites_back (s ∷ ss) = ap (◌∷◌ s) (sites_back ss)

field_back : (f : Option ℕ) → field_of (field_token f) ≡ f
field_back f = grind (arith, common_steps)

pub fields_back : (fs : List (Option ℕ)) → fields_in (map field_token fs) ≡ fs
fields_back [] = refl
fields_back (f ∷ fs) = λ i. field_back f i ∷ fields_back fs i

call_back : (term : ℕ) (n : ℕ) (ss : List ℕ) → read_site (site_tokens (constructor_site term ss n)) ≡ Some (constructor_site term ss n)
call_back term zero [] = refl
call_back term zero (s ∷ ss) = ap (λ (xs : List ℕ). Some (constructor_site term (s ∷ xs) 0)) (sites_back ss)
call_back term (suc n) ss = ap (λ (xs : List ℕ). Some (constructor_site term xs (suc n))) (sites_back ss)

pub site_back : (s : Site) → read_site (site_tokens s) ≡ Some (shown_site s)
site_back s = grind (arith, common_steps, call_back, sites_back)

pub arm_back : (c : Constraint) (fs : List (Option ℕ)) → read_line (constraint_tokens c ++ map field_token fs) colon ≡ begins_arm (shown_constraint fs c) fs
arm_back c fs = grind (arith, common_steps, fields_back)

-- what stands at a depth from a line on, by where the line is
pub below_line : (d k : ℕ) (ts : List Token) (e : Ending) (ls : List Line) → k < d → levels (line d ts e ∷ ls) k ≡ levels ls k
unfolding levels
below_line d k ts e ls h = grind (arith, nat_tests)

pub at_line : (d : ℕ) (ts : List Token) (e : Ending) (ls : List Line) → levels (line d ts e ∷ ls) d ≡ placed (read_line ts e) (levels ls d) (levels ls (d + 2))
unfolding levels
at_line d ts e ls = grind (arith, nat_tests)

pub above_line : (d k : ℕ) (ts : List Token) (e : Ending) (ls : List Line) → d < k → levels (line d ts e ∷ ls) k ≡ no_level
unfolding levels
above_line d k ts e ls h = grind (arith, nat_tests)
