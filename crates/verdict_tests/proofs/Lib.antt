-- each test that lends its code twice: `endless`, `following`, `opened_many`, `sized`, `unproved`
mod LentCode
