-- What values of types stand for.
use Rattle.std.specs.Prelude.{ℕ, List, [], map}
use Rattle.laws_specs.specs.Specs as L
use Rattle.spec_cases.specs.declared.sorts.Sort.{Sort}
use Rattle.spec_cases.specs.declared.sorts.Sort.TheVariants as S
use Rattle.spec_cases.specs.declared.sorts.TypeSort.{TypeSort}
use Rattle.spec_cases.specs.declared.sorts.FunctionSort.{FunctionSort}

abbrev pub sort_view : Sort → L.Sort
sort_view S.Truths = L.truths
sort_view S.Integers = L.integers
sort_view (S.Words w) = L.words w
sort_view (S.WordsAmong ws) = L.words_among ws.items

abbrev pub type_sort : TypeSort → ℕ × L.Sort
type_sort t = (t.ty.0, sort_view t.sort)

abbrev pub type_sorts : List TypeSort → List (ℕ × L.Sort)
type_sorts ts = map type_sort ts

abbrev pub function_sort : FunctionSort → ℕ × L.UnknownSort
function_sort f = (f.function, record { takes = map sort_view f.takes.items; gives = sort_view f.gives })

abbrev pub function_sorts : List FunctionSort → List (ℕ × L.UnknownSort)
function_sorts fs = map function_sort fs

-- what evaluation asks of specs: no more than these two lists
abbrev pub specs_of : List TypeSort → List FunctionSort → L.Specs
specs_of ts fs = record { models = type_sorts ts; constants = []; unknowns = L.no_unknown; unknown_sorts = function_sorts fs; terms = [] }
