-- Labels, put at whatever depths, keep scopes.
use Rattle.std.proofs.Common.{◌≡◌, ◌&&◌, ◌++◌, ◌∷◌, ℕ, suc, Bool, true, false, List, refl, arith}
use Rattle.std.proofs.lemmas.Bool.{and_parts, and_from, false≢true}
use Rattle.std.proofs.lemmas.Grind.{common_steps}
use Rattle.model.specs.trees.Places.{is_in, field_sites}
use Rattle.model_code.specs.Code.{PlaceUse, Block, no_statement, statement, Statement, bind, bind_some, no_way, match_on, if_equal, for_each_of, give, labelled, unless_let, unless_equal, CodeArms, no_code_arm, code_arm}
use Rattle.model_code.specs.Flat.{unlabelled, unlabelled_at, unlabelled_arms, within, flat, flat_at, flat_arms, leaving, leaving_last, leaving_match}
use Rattle.model_code.specs.Scopes.{knows, scope_after, unless_ended, block_scoped, statement_scoped, arms_scoped, FlatKeepsScopes}

-- what follows a statement, where it stays as it is but for labels within
after_flat : (s : Statement) (deep : ℕ → Bool) (n : ℕ) (scope : List ℕ) → scope_after scope s ≡ scope_after scope (flat_at s deep n)
after_flat s deep n scope = grind (arith, common_steps)

pub later_flat : (s : Statement) (deep : ℕ → Bool) (n : ℕ) (x y : Bool) → (x ≡ true → y ≡ true) → unless_ended s x ≡ true → unless_ended (flat_at s deep n) y ≡ true
later_flat s deep n x y h k = grind (arith, common_steps)

within_scoped : (deep : Bool) (l : Bool) (scope : List ℕ) (inner plain : Block) → block_scoped true scope inner ≡ true → block_scoped l scope plain ≡ true → block_scoped l scope (within deep inner plain) ≡ true
within_scoped deep l scope inner plain h k = grind (arith, common_steps, and_from)

-- code without labels is in scope whether or not a label is around: l is before, m after
module _ (deep : ℕ → Bool) (l : Bool) where
  mutual
    flat_scoped : (b : Block) (n : ℕ) (m : Bool) (scope : List ℕ) → unlabelled b ≡ true → block_scoped l scope b ≡ true → block_scoped m scope (flat b deep n) ≡ true
    flat_scoped no_statement n m scope u h = refl
    flat_scoped (statement s rest) n m scope u h =
        let us = and_parts (unlabelled_at s) (unlabelled rest) u in
        let hs = and_parts (statement_scoped l scope s) (unless_ended s (block_scoped l (scope_after scope s) rest)) h in
        and_from (statement_scoped m scope (flat_at s deep n)) _ (flat_scoped_at s n m scope us.0 hs.0)
        (grind (arith, common_steps, flat_scoped rest n m (scope_after scope s) us.1, later_flat, after_flat))

    flat_scoped_at : (s : Statement) (n : ℕ) (m : Bool) (scope : List ℕ) → unlabelled_at s ≡ true → statement_scoped l scope s ≡ true → statement_scoped m scope (flat_at s deep n) ≡ true
    flat_scoped_at (bind v e) n m scope u h = h
    flat_scoped_at (bind_some v x) n m scope u h = h
    flat_scoped_at no_way n m scope u h = refl
    flat_scoped_at (match_on x arms) n m scope u h = let hs = and_parts (knows scope x.place) (arms_scoped l scope arms) h in and_from _ _ hs.0 (flat_scoped_arms arms n m scope u hs.1)
    flat_scoped_at (if_equal a b body) n m scope u h = let hs = and_parts (knows scope a.place && knows scope b.place) (block_scoped l scope body) h in and_from _ _ hs.0 (within_scoped (deep n) m scope (leaving body deep (suc n)) (flat body deep (suc n)) (leaving_scoped body (suc n) scope u hs.1) (flat_scoped body (suc n) m scope u hs.1))
    flat_scoped_at (for_each_of v from body) n m scope u h = let hs = and_parts (is_in from scope) (block_scoped l (v ∷ scope) body) h in and_from _ _ hs.0 (within_scoped (deep n) m (v ∷ scope) (leaving body deep (suc n)) (flat body deep (suc n)) (leaving_scoped body (suc n) (v ∷ scope) u hs.1) (flat_scoped body (suc n) m (v ∷ scope) u hs.1))
    flat_scoped_at (give at x) n m scope u h = h
    flat_scoped_at (labelled body) n m scope u h = absurd (false≢true u)
    flat_scoped_at (unless_let x pattern fields) n m scope u h = absurd (false≢true u)
    flat_scoped_at (unless_equal a b) n m scope u h = absurd (false≢true u)

    flat_scoped_arms : (arms : CodeArms) (n : ℕ) (m : Bool) (scope : List ℕ) → unlabelled_arms arms ≡ true → arms_scoped l scope arms ≡ true → arms_scoped m scope (flat_arms arms deep n) ≡ true
    flat_scoped_arms no_code_arm n m scope u h = refl
    flat_scoped_arms (code_arm pattern fields body rest) n m scope u h =
        let us = and_parts (unlabelled body) (unlabelled_arms rest) u in
        let hs = and_parts (block_scoped l (field_sites fields ++ scope) body) (arms_scoped l scope rest) h in
        and_from _ _ (within_scoped (deep n) m (field_sites fields ++ scope) (leaving body deep (suc n)) (flat body deep (suc n)) (leaving_scoped body (suc n) (field_sites fields ++ scope) us.0 hs.0) (flat_scoped body (suc n) m (field_sites fields ++ scope) us.0 hs.0)) (flat_scoped_arms rest n m scope us.1 hs.1)

    leaving_scoped : (b : Block) (n : ℕ) (scope : List ℕ) → unlabelled b ≡ true → block_scoped l scope b ≡ true → block_scoped true scope (leaving b deep n) ≡ true
    leaving_scoped no_statement n scope u h = refl
    leaving_scoped (statement s no_statement) n scope u h =
        leaving_scoped_last s n scope (and_parts (unlabelled_at s) true u).0 (and_parts (statement_scoped l scope s) (unless_ended s true) h).0
    leaving_scoped (statement s (statement next rest)) n scope u h =
        let us = and_parts (unlabelled_at s) (unlabelled (statement next rest)) u in
        let hs = and_parts (statement_scoped l scope s) (unless_ended s (block_scoped l (scope_after scope s) (statement next rest))) h in
        and_from (statement_scoped true scope (flat_at s deep n)) _ (flat_scoped_at s n true scope us.0 hs.0)
        (grind (arith, common_steps, leaving_scoped (statement next rest) n (scope_after scope s) us.1, later_flat, after_flat))

    leaving_scoped_last : (s : Statement) (n : ℕ) (scope : List ℕ) → unlabelled_at s ≡ true → statement_scoped l scope s ≡ true → block_scoped true scope (leaving_last s deep n) ≡ true
    leaving_scoped_last (bind v e) n scope u h = and_from _ _ h refl
    leaving_scoped_last (bind_some v x) n scope u h = and_from _ _ h refl
    leaving_scoped_last no_way n scope u h = refl
    leaving_scoped_last (match_on x arms) n scope u h = leaving_scoped_match x arms n scope u h
    leaving_scoped_last (if_equal a b body) n scope u h = grind (arith, common_steps, leaving_scoped body n scope u, and_parts, and_from)
    leaving_scoped_last (for_each_of v from body) n scope u h =
        let hs = and_parts (is_in from scope) (block_scoped l (v ∷ scope) body) h in and_from _ _ (and_from _ _ hs.0 (within_scoped (deep n) true (v ∷ scope) (leaving body deep (suc n)) (flat body deep (suc n)) (leaving_scoped body (suc n) (v ∷ scope) u hs.1) (flat_scoped body (suc n) true (v ∷ scope) u hs.1))) refl
    leaving_scoped_last (give at x) n scope u h = and_from _ _ h refl
    leaving_scoped_last (labelled body) n scope u h = absurd (false≢true u)
    leaving_scoped_last (unless_let x pattern fields) n scope u h = absurd (false≢true u)
    leaving_scoped_last (unless_equal a b) n scope u h = absurd (false≢true u)

    leaving_scoped_match : (x : PlaceUse) (arms : CodeArms) (n : ℕ) (scope : List ℕ) → unlabelled_arms arms ≡ true → statement_scoped l scope (match_on x arms) ≡ true → block_scoped true scope (leaving_match x arms deep n) ≡ true
    leaving_scoped_match x no_code_arm n scope u h = and_from _ _ h refl
    leaving_scoped_match x (code_arm pattern fields body no_code_arm) n scope u h =
        let hs = and_parts (knows scope x.place) (block_scoped l (field_sites fields ++ scope) body && true) h in
        and_from _ _ hs.0 (leaving_scoped body n (field_sites fields ++ scope) (and_parts (unlabelled body) true u).0 (and_parts (block_scoped l (field_sites fields ++ scope) body) true hs.1).0)
    leaving_scoped_match x (code_arm pattern fields body (code_arm p2 f2 b2 rest)) n scope u h =
        let us = and_parts (unlabelled body) (unlabelled b2 && unlabelled_arms rest) u in
        let vs = and_parts (unlabelled b2) (unlabelled_arms rest) us.1 in
        let hs = and_parts (knows scope x.place) (block_scoped l (field_sites fields ++ scope) body && (block_scoped l (field_sites f2 ++ scope) b2 && arms_scoped l scope rest)) h in
        let is = and_parts (block_scoped l (field_sites fields ++ scope) body) (block_scoped l (field_sites f2 ++ scope) b2 && arms_scoped l scope rest) hs.1 in
        let js = and_parts (block_scoped l (field_sites f2 ++ scope) b2) (arms_scoped l scope rest) is.1 in
        and_from _ _ (and_from _ _ hs.0 (and_from _ _ (within_scoped (deep n) true (field_sites fields ++ scope) (leaving body deep (suc n)) (flat body deep (suc n)) (leaving_scoped body (suc n) (field_sites fields ++ scope) us.0 is.0) (flat_scoped body (suc n) true (field_sites fields ++ scope) us.0 is.0))
        (and_from _ _ (within_scoped (deep n) true (field_sites f2 ++ scope) (leaving b2 deep (suc n)) (flat b2 deep (suc n)) (leaving_scoped b2 (suc n) (field_sites f2 ++ scope) vs.0 js.0) (flat_scoped b2 (suc n) true (field_sites f2 ++ scope) vs.0 js.0)) (flat_scoped_arms rest n true scope vs.1 js.1)))) refl

pub flat_keeps_scopes_lem : FlatKeepsScopes
flat_keeps_scopes_lem b deep n scope u h = flat_scoped deep false b n false scope u h
