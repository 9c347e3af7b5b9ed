use Rattle.std.proofs.Common.{◌≡◌, [], ap, length, rules}
use Rattle.core_syntax.proofs.NotedErrors.{name_no_limit}
use Rattle.core_types.proofs.Booting.{booted, booted_count}
use Rattle.core_types.proofs.Naming.{first_name}
use Rattle.core_types.proofs.TypesAtEnd.{at_ok, at_err, why_refused}
use Rattle.core_types.proofs.FirstBreaches.{first_breaks}
use Rattle.core_types.proofs.TypeErrors.{all_told, told_forms, told_places}
use Rattle.core_types.proofs.WellFormedEnvs.{types_shown, well_formed}
use Rattle.core_types.proofs.type_env.TypeEnv.from_ast.Goals as goal
use Rattle.std.proofs.lemmas.List.{nil_from_length}

pub name_types-requires : goal.name_types-requires
name_types-requires c =
    let b = c.in_ok-env.ensures in
    first_name _ _ _ (booted _ b) (booted_count _ b) c.new-errors.ensures.items

pub returns-then-is_empty-clause-answers : goal.returns-then-is_empty-clause-answers
returns-then-is_empty-clause-answers c =
    let none : length c.read_constants.new.errors.items ≡ 0 = search rules in
    at_ok _ _ _ c.in_ok-read_constants.ensures.reads (nil_from_length _ none)

pub returns-then-is_empty-clause-shown : goal.returns-then-is_empty-clause-shown
returns-then-is_empty-clause-shown c =
    let none : length c.read_constants.new.errors.items ≡ 0 = search rules in
    let ok = at_ok _ _ _ c.in_ok-read_constants.ensures.reads (nil_from_length _ none) in
    types_shown _ _ ok.0 ok.1

pub returns-then-is_empty-clause-well_formed : goal.returns-then-is_empty-clause-well_formed
returns-then-is_empty-clause-well_formed c =
    let none : length c.read_constants.new.errors.items ≡ 0 = search rules in
    let ok = at_ok _ _ _ c.in_ok-read_constants.ensures.reads (nil_from_length _ none) in
    well_formed _ _ ok.0 ok.1

pub returns-else-is_empty-clause-told : goal.returns-else-is_empty-clause-told
returns-else-is_empty-clause-told c =
    let names = rw c.new-errors.ensures.items at c.in_ok-name_types.ensures.told in
    all_told _ _ _ _ names c.in_ok-fill_types.ensures.told c.in_ok-read_constants.ensures.told

pub returns-else-is_empty-clause-answers : goal.returns-else-is_empty-clause-answers
returns-else-is_empty-clause-answers c =
    let many : length c.read_constants.new.errors.items ≡ 0 → ⊥ = search rules in
    let some : c.read_constants.new.errors.items ≡ [] → ⊥ = λ e. many (ap length e) in
    (some, at_err _ _ (returns-else-is_empty-clause-told c) some)

pub returns-else-is_empty-clause-no_limit : goal.returns-else-is_empty-clause-no_limit
returns-else-is_empty-clause-no_limit c = name_no_limit _ (told_forms _ _ (returns-else-is_empty-clause-told c))

pub returns-else-is_empty-clause-refused : goal.returns-else-is_empty-clause-refused
returns-else-is_empty-clause-refused c =
    let many : length c.read_constants.new.errors.items ≡ 0 → ⊥ = search rules in
    why_refused _ _ (returns-else-is_empty-clause-told c) (λ e. many (ap length e))

pub returns-else-is_empty-clause-places : goal.returns-else-is_empty-clause-places
returns-else-is_empty-clause-places c = told_places _ _ (returns-else-is_empty-clause-told c)

pub returns-else-is_empty-clause-breach : goal.returns-else-is_empty-clause-breach
returns-else-is_empty-clause-breach c =
    let many : length c.read_constants.new.errors.items ≡ 0 → ⊥ = search rules in
    first_breaks _ _ (returns-else-is_empty-clause-told c) (λ e. many (ap length e))
