-- What the browser answers, by the layout's browser.
use Rattle.std.specs.Prelude.{Option, Some, None, Result, Ok, Err}
use Rattle.layout.specs.Browser as layout
use Rattle.tables.specs.declared.TagFound.{TagFound}
use Rattle.refusal.specs.Refusal.{placed}
use Rattle.refusal.specs.declared.Refusal.{Refusal}

-- the layout's answer in the code's own words
unfoldable pub browsed_as : layout.Browsed → Result (Option TagFound) Refusal
browsed_as (layout.tag name value) =
    Ok (Some (record { name = name.start; name_length = name.len; value = value.start; value_length = value.len }))
browsed_as layout.end = Ok None
browsed_as (layout.refused n p) = Err (placed n p)
