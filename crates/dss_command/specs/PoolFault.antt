-- The texts of faults of an instance of a pool.
use Rattle.std.specs.Prelude.{ℕ, List, codes}
use Rattle.dss_command.specs.declared.pool_fault.PoolFault.{PoolFault}
use Rattle.dss_command.specs.declared.pool_fault.PoolFault.TheVariants.{Compacted, Deleted, Diverged, Ended, Files, FilesBusy, HasFile, NoAirspace, NoChain, NoFile, NoRandom, Replaced, Settings, Shortened, Silent, Suppliers, Unlinked, Unmade, UserInvalid, UserUnread}

-- What is wrong and what to do, as it is printed.
abbrev pub text_of : PoolFault → List ℕ
text_of UserUnread = codes "etcd user: cannot read its file"
text_of UserInvalid = codes "etcd user: its file is not one line NAME:PASSWORD"
text_of NoRandom = codes "random: the system gives no random bytes"
text_of Replaced = codes "replaced: another process writes under this name; stop one of them"
text_of Compacted =
    codes
    "compacted: etcd no longer has the entries behind the start; use --files with a newer file"
text_of Deleted = codes "deleted: the key of this process was deleted from etcd; start it again"
text_of Shortened =
    codes
    "shortened: etcd lost entries of the log; stop all instances of the pool, and restore etcd"
text_of Settings =
    codes
    "settings: the pool has another salt, policy or beginning; use its salt, version and files"
text_of Suppliers =
    codes
    "suppliers: the list forbids a USS of an own entry; change --tokens, or add it to the list"
text_of Unlinked =
    codes "unlinked: an own entry came too many changes after it was offered; start it again"
text_of Diverged =
    codes
    "diverged: most organizations were given other changes; stop the instance, and compare the members of etcd"
text_of Unmade =
    codes
    "unmade: a batch of changes was not stored in time, and never will be; start it again"
text_of Silent = codes "etcd does not answer; check --pool and that a majority of its members runs"
text_of Files =
    codes
    "files: cannot read or write the directory; check that it exists, its permissions and its disk"
text_of NoFile =
    codes
    "files: the directory has no file REVISION-SETTINGS-BEGINNING.db; run dss follow or dss begin"
text_of NoAirspace =
    codes "files: the newest file is gone, or has no airspace; move it away, and start again"
text_of NoChain =
    codes
    "files: the chain of the newest file is gone or damaged; copy the file and its chain again"
text_of HasFile =
    codes
    "files: the directory has a file of a pool; move its files away, or give another directory"
text_of FilesBusy =
    codes "files: another dss follow or dss begin uses the directory; wait until it ends"
text_of Ended = codes "ended: an entry needs more memory; free memory, and start again"
