-- What an answer says of the steps that led to it.
use Rattle.std.proofs.Common.{◌≡◌, ℕ, suc, ◌+◌, Bool, true, false, cond, eqb, Option, Some, None, ◌⊎◌, refl, arith}
use Rattle.std.proofs.lemmas.Grind.{common_steps}
use Rattle.std.proofs.lemmas.Bool.Decides.{Decides-eqb}
use Rattle.std.proofs.lemmas.Option.{same_Some}
use Rattle.model.specs.lists.Tables.{TermEntry}
use Rattle.model.specs.rules.Outcome.{then_option}
use Rattle.model.specs.lists.Syntax.{PatternTree}
use Rattle.model.specs.lists.Setting.{Setting, Scope, is_expected, expr_converter}
use Rattle.model.specs.lists.Typings.{Typing, made_into, scoped, joined_typing, followed, counted}
use Rattle.model.specs.lists.Elaborated.{or_expanded, as_expected}
use Rattle.laws_typing.specs.TypingLaws.{typing}
use Rattle.model.proofs.Options.{then_some}

pub ne-eqb : (a b : ℕ) → (a ≡ b → ⊥) → eqb a b ≡ false
ne-eqb a b h = elim (eqb a b) as (λ v. eqb a b ≡ v → v ≡ false) [ true ↦ λ k. absurd (h ((Decides-eqb a b).0 k)) | false ↦ λ k. refl ] refl

pub eqb-ne : (a b : ℕ) → eqb a b ≡ false → a ≡ b → ⊥
eqb-ne a b h k = absurd (let j = (Decides-eqb a b).1 k in cc)

pub then_gives : {X Y : Type 0} (o : Option X) (f : X → Option Y) {y : Y} → then_option o f ≡ Some y → (x : X) × (o ≡ Some x) × (f x ≡ Some y)
then_gives o f {y} h = then_some o f y h

pub made_gives : {X Y : Type 0} (f : X → Y) (o : Option (Typing X)) {r : Typing Y} → made_into f o ≡ Some r → (a : Typing X) × (o ≡ Some a) × (typing (f a.made) a.scope a.expansions ≡ r)
made_gives f None h = absurd (cc)
made_gives f (Some a) h = (a, refl, same_Some _ _ h)

pub scoped_gives : {X : Type 0} (f : Scope → Scope) (o : Option (Typing X)) {r : Typing X} → scoped f o ≡ Some r → (a : Typing X) × (o ≡ Some a) × (typing a.made (f a.scope) a.expansions ≡ r)
scoped_gives f None h = absurd (cc)
scoped_gives f (Some a) h = (a, refl, same_Some _ _ h)

pub counted_gives : {X : Type 0} (o : Option (Typing X)) {r : Typing X} → counted o ≡ Some r → (a : Typing X) × (o ≡ Some a) × (typing a.made a.scope (suc a.expansions) ≡ r)
counted_gives None h = absurd (cc)
counted_gives (Some a) h = (a, refl, same_Some _ _ h)

joined_gives : {X Y Z : Type 0} (f : X → Y → Z) (a : Typing X) (o : Option (Typing Y)) {r : Typing Z} → joined_typing f a o ≡ Some r → (b : Typing Y) × (o ≡ Some b) × (typing (f a.made b.made) b.scope (a.expansions + b.expansions) ≡ r)
joined_gives f a None h = absurd (cc)
joined_gives f a (Some b) h = (b, refl, same_Some _ _ h)

pub followed_gives : {X Y Z : Type 0} (f : X → Y → Z) (o : Option (Typing X)) (next : Typing X → Option (Typing Y)) {r : Typing Z}
    → followed f o next ≡ Some r
    → (a : Typing X) × (b : Typing Y) × (o ≡ Some a) × (next a ≡ Some b) × (typing (f a.made b.made) b.scope (a.expansions + b.expansions) ≡ r)
followed_gives f None next h = absurd (cc)
followed_gives f (Some a) next h = let b = joined_gives f a (next a) h in (a, b.0, refl, b.1, b.2)

pub cond_gives : {X : Type 0} (b : Bool) (x y : Option X) {r : X} → cond b x y ≡ Some r → ((b ≡ true) × (x ≡ Some r)) ⊎ ((b ≡ false) × (y ≡ Some r))
cond_gives b x y h = grind (arith, common_steps)

pub if_gives : {X : Type 0} (b : Bool) (x : Option X) {r : X} → cond b x None ≡ Some r → (b ≡ true) × (x ≡ Some r)
if_gives b x h = grind (arith, common_steps)

pub template_gives : {X : Type 0} (o : Option PatternTree) (f : PatternTree → Option X) (x : Option X) {r : X}
    → or_expanded o f x ≡ Some r → ((o ≡ None) × (x ≡ Some r)) ⊎ ((p : PatternTree) × (o ≡ Some p) × (f p ≡ Some r))
template_gives o f x h = grind (arith, common_steps)

pub expected_itself : {X : Type 0} (e : Setting) (own : ℕ) (ty : Option ℕ) (x : Option X) (f : TermEntry → Option X) → is_expected ty own ≡ true → as_expected e own ty x f ≡ x
expected_itself e own ty x f h = grind (arith, common_steps)

pub expected_gives : {X : Type 0} (e : Setting) (own : ℕ) (ty : Option ℕ) (x : Option X) (f : TermEntry → Option X) {r : X}
    → as_expected e own ty x f ≡ Some r
    → ((is_expected ty own ≡ true) × (x ≡ Some r)) ⊎ ((t : ℕ) × (by : TermEntry) × (ty ≡ Some t) × (own ≡ t → ⊥) × (expr_converter e own t ≡ Some by) × (f by ≡ Some r))
expected_gives e own ty x f h = grind (arith, common_steps, then_gives, eqb-ne, cond_gives)
