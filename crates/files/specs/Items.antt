-- Labels, items and alternatives. Assumes nothing.
use Rattle.std.specs.Prelude.{ℕ, ◌+◌, ◌-◌, ◌*◌, List, ◌++◌, length, take, drop, replicate, fold, slice_get, slice_index_or, slice_set, Option, None, if◌then◌else◌, nat_lt}
use Rattle.files.specs.declared.item.Label.{Label}
use Rattle.files.specs.declared.item.Item.{Item}
use Rattle.files.specs.declared.item.Item.TheVariants.{Vacant, Use, Name, Literal}
use Rattle.files.specs.declared.item.Alternative.{Alternative}

-- a text of at most 24 bytes, read at a place
abbrev pub label_of : List ℕ → ℕ → Label
label_of s p = record { bytes = s ++ drop (length s) (replicate 24 0); length = length s; place = p }

abbrev pub text_of : Label → List ℕ
text_of l = take l.length l.bytes

-- the number that a run of digits stands for
abbrev pub decimal : List ℕ → ℕ
decimal s = fold (λ n b. n * 10 + (b - 48)) 0 s

abbrev pub resized : Item → ℕ → Item
resized Vacant n = Vacant
resized (Use l) n = Use l
resized (Name y) n = Name y
resized (Literal l s c) n = Literal l n c

abbrev pub recosted : Item → ℕ → Item
recosted Vacant n = Vacant
recosted (Use l) n = Use l
recosted (Name y) n = Name y
recosted (Literal l s c) n = Literal l s n

abbrev pub item_at : Alternative → ℕ → Item
item_at a i = slice_index_or a.items i Vacant

-- the item at place i, if one stands there
abbrev pub item_in : Alternative → ℕ → Option Item
item_in a i = if nat_lt i a.count then slice_get a.items i else None

-- an alternative without items, whose first would have the number j
abbrev pub no_items : ℕ → Alternative
no_items j = record { items = replicate 6 Vacant; count = 0; first = j }

abbrev pub with_item : Alternative → Item → Alternative
with_item a i = record { items = slice_set a.items a.count i; count = a.count + 1; first = a.first }

abbrev pub with_put : Alternative → ℕ → Item → Alternative
with_put a k i = record { items = slice_set a.items k i; count = a.count; first = a.first }

-- another size, or cost, for the last item
abbrev pub with_size : Alternative → ℕ → Alternative
with_size a n = with_put a (a.count - 1) (resized (item_at a (a.count - 1)) n)

abbrev pub with_cost : Alternative → ℕ → Alternative
with_cost a n = with_put a (a.count - 1) (recosted (item_at a (a.count - 1)) n)

-- the items of an alternative
abbrev pub items_of : Alternative → List Item
items_of a = take a.count a.items
