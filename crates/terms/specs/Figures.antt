-- The figures of documents 01 and 02, each in this one place.
--   variables       "variable, number 0 to 7": how many there are
--   constants       document 02: "the second byte of a record becomes the top eight bits of the number": how many there are
--   numbers         how many numbers the three bytes behind a record's kind hold
--   words           "16 bits each": how many numbers two bytes hold
--   pattern_records  "Sizes: pattern and right side 1 to 32 records"
--   recipe_records  "recipe 1 to 96"
--   value_records   "value 1 to 160"
--   swept_records   "the swept form of some part [..] is above 256 records"
--   table_bytes     "above 65,536 bytes": the most that a line, value or output table has, and what the work area has
--   most_sweeps     document 02: "when 64 sweeps reach no normal form"
--   place_bytes     document 02: "a lent table of 260-byte places"
--   most_places     document 02: "a book that is empty or above 64 places"
--   buoys           document 02: "Keep recipes by buoy, 0 to 199": how many there are
--   shelf_records   document 02: "in one lent record table of 16,384 records"
--   ceiling         document 02: "staying at 4,294,967,295 once there"
use Rattle.std.specs.Prelude.{ℕ}

abbrev pub variables : ℕ
variables = 8

abbrev pub constants : ℕ
constants = 16777216

abbrev pub numbers : ℕ
numbers = 16777216

abbrev pub words : ℕ
words = 65536

abbrev pub pattern_records : ℕ
pattern_records = 32

abbrev pub recipe_records : ℕ
recipe_records = 96

abbrev pub value_records : ℕ
value_records = 160

abbrev pub swept_records : ℕ
swept_records = 256

abbrev pub table_bytes : ℕ
table_bytes = 65536

abbrev pub most_sweeps : ℕ
most_sweeps = 64

abbrev pub place_bytes : ℕ
place_bytes = 260

abbrev pub most_places : ℕ
most_places = 64

abbrev pub buoys : ℕ
buoys = 200

abbrev pub shelf_records : ℕ
shelf_records = 16384

abbrev pub ceiling : ℕ
ceiling = 4294967295
