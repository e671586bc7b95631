-- The part of a page is that for the method and for the tags that the head has.
use Rattle.std.proofs.Common.{◌≡◌, ◌∙◌, List, ℕ, Option, Bool, ap, codes, cond, option_map, rules, slice_get, sym, take}
use Rattle.std.specs.Str.{bytes_eq}
use Rattle.httparse.specs.Spans.{span_bytes}
use Rattle.websocket.specs.Headers.{fields_of, header_value}
use Rattle.c8_relay_web.specs.Paths.{path_of}
use Rattle.c8_relay_web.specs.Requests.{has_tag}
use Rattle.c8_relay_web.specs.Sites.{place_in}
use Rattle.c8_relay_web.specs.declared.page.Part.TheVariants.{Whole, Head, Unchanged}
use Rattle.c8_relay_web.proofs.request.answer.Goals as goal

pub returns : goal.returns
returns c =
    let head = c.args.head.now in
    let input = c.args.input.now in
    let page = slice_get c.args.site.now.pages.pages.items c.in-Some.place in
    let tags : Option (List ℕ) = header_value (fields_of input (take head.headers c.args.spans.now)) (codes "If-None-Match") in
    let tagged : option_map (λ it. it.now) c.field-tags.result ≡ tags = search rules in
    let gets : c.is_same-is_get.result ≡ bytes_eq (span_bytes input head.method) (codes "GET") = search rules in
    let path : c.without_query-path.result.now ≡ path_of (span_bytes input head.path) = search rules in (
      search rules,
      search rules,
      ap (λ (p : List ℕ). place_in c.args.site.now.pages.pages.items p) (sym path) ∙ sym c.in-Some.ensures,
      c.part_of.ensures
          ∙ ap (λ (t : Option (List ℕ)). cond (has_tag t page) Unchanged (cond c.is_same-is_get.result Whole Head)) tagged
          ∙ ap (λ (b : Bool). cond (has_tag tags page) Unchanged (cond b Whole Head)) gets,
    )
