-- How much a BIOS attribute can have.
use Rattle.std.specs.Prelude.{ℕ, ◌+◌, ◌-◌}

-- how many possible values an enumeration has at most
abbrev pub most_indexes : ℕ
most_indexes = 16

-- how many bytes a value has at most that isn't a text: the number of an enumeration's indexes, and the indexes
abbrev pub most_few : ℕ
most_few = 1 + most_indexes

-- how many bytes a name or a possible value has at most
abbrev pub most_name : ℕ
most_name = 200

-- how many bytes the text of a string has at most
abbrev pub most_text : ℕ
most_text = 1024

-- how many bytes the value of an attribute has at least: the number of indexes and one index, or the length of a text
abbrev pub least_value : ℕ
least_value = 2

-- how many bytes the value of an attribute has at most: the length of a text, and the text
abbrev pub most_value : ℕ
most_value = 2 + most_text

-- how many bytes the whole data of a Set or of a Get reply have at most. Those of an attribute may go in parts.
abbrev pub most_data : ℕ
most_data = 1040

-- how many bytes of the data stand before a value: handle, flag, attribute and type
abbrev pub before_value : ℕ
before_value = 8

-- how many bytes the value of a Set has at most
abbrev pub most_sent : ℕ
most_sent = most_data - before_value

-- how many attributes a board has at most
abbrev pub most_attributes : ℕ
most_attributes = 64
