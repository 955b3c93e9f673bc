pub mod GopHeader
