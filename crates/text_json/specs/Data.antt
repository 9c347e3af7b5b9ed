-- Objects and lists of data, by lists.
use Rattle.std.specs.Prelude.{ℕ, List, [], ◌∷◌, decimal}
use Rattle.json.specs.Json.{Json, number, array, object, Items, no_items, item, Members, no_members, member}
use Rattle.json.specs.Token.{Token}
use Rattle.text_json.specs.Writing.{with_items, with_members}

-- a key and its value
abbrev pub Field : Type 0
Field = List ℕ × Json

abbrev pub items_of : List Json → Items
items_of [] = no_items
items_of (j ∷ js) = item j (items_of js)

abbrev pub members_of : List Field → Members
members_of [] = no_members
members_of (f ∷ fs) = member f.0 f.1 (members_of fs)

abbrev pub list_of : List Json → Json
list_of js = array (items_of js)

abbrev pub object_of : List Field → Json
object_of fs = object (members_of fs)

abbrev pub count : ℕ → Json
count n = number (decimal n)

-- what fields and the elements of a list add
abbrev pub with_fields : List Field → List Token → List Token
with_fields fs ts = with_members (members_of fs) ts

abbrev pub with_list : List Json → List Token → List Token
with_list js ts = with_items (items_of js) ts
