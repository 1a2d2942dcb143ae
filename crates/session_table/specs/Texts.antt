-- What the errors of tables of sessions print.
use Rattle.std.specs.Prelude.{ℕ, List, codes}
use Rattle.generational_errors.specs.Texts.{store_error_text}
use Rattle.session_table.specs.declared.entry.PutError.{PutError}
use Rattle.session_table.specs.declared.entry.PutError.TheVariants as put
use Rattle.session_table.specs.declared.session.LoginError.{LoginError}
use Rattle.session_table.specs.declared.session.LoginError.TheVariants as login
use Rattle.session_table.specs.declared.session.RenameError.{RenameError}
use Rattle.session_table.specs.declared.session.RenameError.TheVariants as rename

abbrev pub put_error_text : PutError → List ℕ
put_error_text put.NoSession = codes "the id has no session"
put_error_text put.KeyInUse = codes "the session has an entry under the key already"
put_error_text (put.Store cause) = store_error_text cause

abbrev pub login_error_text : LoginError → List ℕ
login_error_text login.IdInUse = codes "the id has a session already"
login_error_text (login.Store cause) = store_error_text cause

abbrev pub rename_error_text : RenameError → List ℕ
rename_error_text rename.NoSession = codes "the id has no session"
rename_error_text rename.IdInUse = codes "the new id has a session already"
rename_error_text (rename.Store cause) = store_error_text cause
