-- Which paths of requests mean what, and which fields name a page.
use Rattle.std.specs.Prelude.{◌==◌, ◌&&◌, ◌||◌, ℕ, Bool, false, List, [], ◌∷◌, None, Option, Some, codes, drop, length, nat_eq, not, take}
use Rattle.std.specs.Char.{is_ascii_digit}
use Rattle.std.specs.List.{ends_with, list_all, position, starts_with}
use Rattle.std.specs.Str.{bytes_eq}

-- the path of a request's target: what stands before the question mark of its query, if it has one (RFC 9112, section 3.2)
abbrev pub path_before : Option ℕ → List ℕ → List ℕ
path_before None target = target
path_before (Some place) target = take place target

abbrev pub path_of : List ℕ → List ℕ
path_of target = path_before (position (λ byte. byte == 63) target) target

-- one digit or more
abbrev pub is_number : List ℕ → Bool
is_number text = not (length text == 0) && list_all is_ascii_digit text

-- a path is that of the relay, or that of the relay with a number
abbrev pub is_relay : List ℕ → Bool
is_relay path = bytes_eq path (codes "/relay") || (starts_with nat_eq path (codes "/relay/") && is_number (drop 7 path))

-- a path names a file: it is the file's own, or that of the folder whose index.html it is
abbrev pub names : List ℕ → List ℕ → Bool
names path own =
    bytes_eq own path
    || (ends_with nat_eq path (codes "/") && starts_with nat_eq own path && bytes_eq (drop (length path) own) (codes "index.html"))

-- one text stands in another
abbrev pub contains : List ℕ → List ℕ → Bool
contains [] word = false
contains (byte ∷ text) word = starts_with nat_eq (byte ∷ text) word || contains text word

-- the value of an If-None-Match names an entity tag: it is *, or the tag stands in it (RFC 9110, section 13.1.2)
abbrev pub names_tag : List ℕ → List ℕ → Bool
names_tag value tag = bytes_eq value (codes "*") || contains value tag
