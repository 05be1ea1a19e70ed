-- Backups that are requested on the admin port.
use Rattle.std.specs.Prelude.{◌≡◌, ◌==◌, ◌&&◌, ◌||◌, ◌++◌, ◌≤◌, ℕ, Bool, true, List, nat_le, length, codes, decimal}
use Rattle.std.specs.List.{list_all}
use Rattle.admin_http.specs.declared.backup.BackupResult.{BackupResult}
use Rattle.admin_http.specs.declared.backup.BackupResult.TheVariants as backup

-- True if a byte is in this range.
abbrev pub is_from : (first last : ℕ) → ℕ → Bool
is_from first last b = nat_le first b && nat_le b last

-- True for an ASCII letter or digit, '-' or '_'.
abbrev pub is_name_byte : ℕ → Bool
is_name_byte b = is_from 48 57 b || is_from 65 90 b || is_from 97 122 b || b == 45 || b == 95

-- Holds if a name has 1 to 64 such bytes.
abbrev pub IsName : List ℕ → Type 0
IsName name = (1 ≤ length name) × (length name ≤ 64) × (list_all is_name_byte name ≡ true)

-- Holds if the query names a backup.
abbrev pub Names : (query name : List ℕ) → Type 0
Names query name = (query ≡ codes "name=" ++ name) × IsName name

abbrev pub status_of : BackupResult → ℕ
status_of (backup.Made size) = 200
status_of backup.InvalidName = 400
status_of backup.NoDirectory = 404
status_of backup.Exists = 409
status_of backup.Busy = 503
status_of backup.WriteFailed = 503
status_of backup.ReadFailed = 503
status_of backup.TooManyChanges = 503
status_of backup.Memory = 503

-- The body of the response.
abbrev pub words_of : BackupResult → List ℕ
words_of (backup.Made size) = codes "made: " ++ (decimal size ++ codes " bytes\n")
words_of backup.InvalidName = codes "name: 1 to 64 letters, digits, - and _\n"
words_of backup.NoDirectory = codes "no such path\n"
words_of backup.Exists = codes "exists: there is a backup of that name\n"
words_of backup.Busy = codes "busy: another backup is running\n"
words_of backup.WriteFailed = codes "failed: the backup directory cannot be written\n"
words_of backup.ReadFailed = codes "failed: the database files cannot be read\n"
words_of backup.TooManyChanges = codes "failed: the database changes too fast\n"
words_of backup.Memory = codes "failed: out of memory\n"
