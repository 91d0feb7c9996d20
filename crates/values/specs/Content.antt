-- Defines what `into_content` takes out of a value.
use Rattle.values.specs.declared.value.Value.{Value}
use Rattle.values.specs.declared.value.Value.TheVariants as value
use Rattle.values.specs.declared.value.content.Content.{Content}
use Rattle.values.specs.declared.value.content.Content.TheVariants as content

-- Returns the text, the list or the dictionary of a value, and `Other` for a value of another type.
abbrev pub content_of : Value → Content
content_of (value.Boolean b) = content.Other
content_of (value.Integer z) = content.Other
content_of (value.Text t) = content.Text t
content_of (value.List l) = content.List l
content_of (value.Dictionary d) = content.Dictionary d
content_of (value.Object o) = content.Other
