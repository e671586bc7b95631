-- Which page a path names, and which pages may open a WebSocket.
use Rattle.std.specs.Prelude.{◌==◌, ◌||◌, ℕ, Bool, List, Option, None, Some, length, string_bytes}
use Rattle.std.specs.List.{list_any, position}
use Rattle.std.specs.Str.{bytes_eq}
use Rattle.c8_relay_web.specs.Paths.{names}
use Rattle.c8_relay_web.specs.declared.page.Page.{Page}
use Rattle.c8_relay_web.specs.declared.site.Site.{Site}

-- the place of the first page that a path names
abbrev pub place_in : List Page → List ℕ → Option ℕ
place_in pages path = position (λ page. names path (string_bytes page.path)) pages

-- a page of this origin may open a WebSocket: it is one of those that were named, or none was; a client that says none has no origin
abbrev pub is_admitted : Site → Option (List ℕ) → Bool
is_admitted site None = length site.origins.items == 0
is_admitted site (Some origin) = length site.origins.items == 0 || list_any (λ own. bytes_eq (string_bytes own) origin) site.origins.items
