-- What a map has after pairs were put in turn.
use Rattle.std.proofs.Common.{◌≡◌, Bool, true, false, cond, List, [], ◌∷◌, ◌++◌, reverse, Option, Some, None, refl, sym, ap, ◌∙◌}
use Rattle.std.specs.Cmp.{IsEquivalence}
use Rattle.std.specs.Map.{lookup, update, update_all}
use Rattle.std.specs.Option.{option_or}
use Rattle.std.proofs.lemmas.List.{reverse-append}

option_or_assoc : {V : Type 0} → (o p q : Option V) → option_or (option_or o p) q ≡ option_or o (option_or p q)
option_or_assoc None p q = refl
option_or_assoc (Some x) p q = refl

or_before : {V : Type 0} → (b : Bool) (v : V) (o : Option V) → option_or (cond b (Some v) None) o ≡ cond b (Some v) o
or_before true v o = refl
or_before false v o = refl

module _ {K V : Type 0} where
  lookup-append : (test : K → Bool) (es fs : List (K × V)) → lookup test (es ++ fs) ≡ option_or (lookup test es) (lookup test fs)
  lookup-append test [] fs = refl
  lookup-append test (e ∷ es) fs = go (test e.0) (lookup-append test es fs)
    where
      go : (b : Bool) → lookup test (es ++ fs) ≡ option_or (lookup test es) (lookup test fs) → cond b (Some e.1) (lookup test (es ++ fs)) ≡ option_or (cond b (Some e.1) (lookup test es)) (lookup test fs)
      go true r = refl
      go false r = r

  module _ {eq : K → K → Bool} (laws : IsEquivalence eq) where
    after_pairs : (k : K) (f : K → Option V) (pairs : List (K × V)) → update_all eq f pairs k ≡ option_or (lookup (eq k) (reverse pairs)) (f k)
    after_pairs k f [] = refl
    after_pairs k f (p ∷ ps) =
        let one : reverse (p ∷ ps) ≡ reverse ps ++ p ∷ [] = reverse-append (p ∷ []) ps in
        after_pairs k (update eq f p.0 (Some p.1)) ps
        ∙ sym (ap (λ es. option_or (lookup (eq k) es) (f k)) one
        ∙ ap (λ o. option_or o (f k)) (lookup-append (eq k) (reverse ps) (p ∷ []))
        ∙ option_or_assoc (lookup (eq k) (reverse ps)) (cond (eq k p.0) (Some p.1) None) (f k)
        ∙ ap (option_or (lookup (eq k) (reverse ps))) (or_before (eq k p.0) p.1 (f k) ∙ ap (λ b. cond b (Some p.1) (f k)) (laws.symm k p.0)))

    -- pairs that are put in turn into an empty map leave at each key the value of the last pair with that key
    pub last_stands : (k : K) (pairs : List (K × V)) → update_all eq (λ _. None) pairs k ≡ lookup (eq k) (reverse pairs)
    last_stands k pairs = after_pairs k (λ _. None) pairs ∙ end (lookup (eq k) (reverse pairs))
      where
        end : (o : Option V) → option_or o None ≡ o
        end None = refl
        end (Some v) = refl
