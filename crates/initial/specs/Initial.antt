-- The table that set up makes.
use Rattle.std.specs.Prelude.{Bool, ◌&&◌, List, ℕ, ◌-◌, ◌/◌, eqb, leb, length, replicate, if◌then◌else◌}
use Rattle.record.specs.declared.Header.{Header}
use Rattle.record.specs.declared.Settings.{Settings}
use Rattle.record.specs.declared.Form.{Form}
use Rattle.record.specs.Layout.{wide, record_at, no_peer}
use Rattle.soundness.specs.Soundness.{own_ok, settings_ok}
use Rattle.table.specs.Table.{Table, encode_table}

-- "Set up makes this form": the one with records of 1,080 octets. A fresh table of the form of 864 is the same but for its form, so that all below is
-- said of a form f.
abbrev pub made : Form
made = wide

-- the number of slots that a length has room for
unfoldable pub slots_for : Form → ℕ → ℕ
slots_for f n = (n - 32) / f.size

-- "slots N (1 to 64). The table's length is 32 + 864 × N", and 32 + 1,080 × N with N at most 60
unfoldable pub length_ok : Form → ℕ → Bool
length_ok f n = leb 1 (slots_for f n) && (leb (slots_for f n) f.slots && eqb n (record_at f.width (slots_for f n)))

-- a header with no slot in use
unfoldable pub initial_header : Form → Settings → List ℕ → ℕ → Header
initial_header f s own n =
    record {
      geometry = record { slots = n; size = f.size; first = 32 };
      counts = record { used = 0; opened = 0; good = 0 };
      spare = 0;
      own = own;
      settings = s;
    }

unfoldable pub initial_table : Form → Settings → List ℕ → ℕ → Table
initial_table f s own n = record { header = initial_header f s own n; peers = replicate n no_peer }

-- cause 1: "Settings, own address or length wrong at set up"
unfoldable pub initial_ok : Form → Settings → List ℕ → ℕ → Bool
initial_ok f s own n = settings_ok f s && (own_ok own && length_ok f n)

-- the buffer that set up leaves: the fresh table, or as it was; its old content is not looked at
unfoldable pub initial : Form → Settings → List ℕ → List ℕ → List ℕ
initial f s own t = if initial_ok f s own (length t) then encode_table (initial_table f s own (slots_for f (length t))) else t
